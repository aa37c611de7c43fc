-- The answer for a store, by what accepting it answered.
use Rattle.std.specs.Prelude.{◌≡◌, List, ℕ, ◌≤◌, length, Result, Ok, Err}
use Rattle.std.proofs.Math.Path.{refl}
use Rattle.std.proofs.Common.{sym, ap, ◌∙◌, arith}
use Rattle.meaning.specs.Graph.{Graph}
use Rattle.meaning.specs.facts.Tests.{clash}
use Rattle.format.specs.Store as format
use Rattle.format.specs.Store.{accepted, refused, if_accepted}
use Rattle.format.specs.Accept.{accept}
use Rattle.format.specs.Valid.{Valid}
use Rattle.format.specs.laws.AcceptValid.{accept_valid}
use Rattle.record.specs.Stands.{Stands, OfRecord}
use Rattle.record.specs.Outcome.{forget}
use Rattle.nesting.specs.Nesting.{Nested, structurize_func}
use Rattle.nesting.specs.Sheet.{Sheet, answer, answer_words, sheet_for, sheet_of, figure_fits, words_fit, sheet_words}
use Rattle.follows.proofs.sound.Sound.{sound}
use Rattle.store.specs.Loaded.{answered}
use Rattle.store.specs.Refusals.{refused_as}
use Rattle.store.specs.declared.refusals.Refusal.{Refusal}
use Rattle.accept.specs.Accepts.{Accepts}
use Rattle.state_shown.specs.laws.FrontKept.{front_same}
use Rattle.state_words.specs.Sections.{used}
use Rattle.cfg_claims.specs.Claims.{Stood}
use Rattle.sheet.specs.Written.{lent}
use Rattle.nester.specs.Answers.{record_words, words_if_figured, words_if_fit, NestsRecord}
use Rattle.nester.specs.Nests.{Nests}
use Rattle.nester.specs.laws.NestingRecord.{ends_refused}

module _ (store : List ℕ) (lent : ℕ) where
  pub words_refused : {n x : ℕ} → accept store ≡ refused n x → answer_words store lent ≡ refused n x
  unfolding answer_words answer sheet_for
  words_refused e = rw e

  pub words_accepted : {g : Graph} → accept store ≡ accepted g → answer_words store lent ≡ record_words g lent
  unfolding answer_words answer sheet_for record_words
  words_accepted {g} e = rw e (by (structurize_func g))
    where
      -- First the figure, then the lent words.
      by : (b : format.Answer Nested) → if_accepted (if_accepted (if_accepted b (λ x. figure_fits (sheet_of g x))) (words_fit lent))
          (λ s. accepted (sheet_words s)) ≡ if_accepted b λ x. words_if_figured lent (sheet_of g x)
      by (refused n x) = refl
      by (accepted x) = then_words (figure_fits (sheet_of g x))
        where
          then_words : (b : format.Answer Sheet) → if_accepted (if_accepted b (words_fit lent)) (λ s. accepted (sheet_words s))
              ≡ if_accepted b (words_if_fit lent)
          then_words (refused n x) = refl
          then_words (accepted s) = refl

module _ {store w loaded : List ℕ} {v : Result (Unit {0}) Refusal} (accepts : Accepts store w loaded v) where
  -- A store or a record that is refused.
  pub nest_refused : (out : List ℕ) {why : Refusal} → v ≡ Err why → Nests store w loaded out out (Err why)
  nest_refused out {why} e =
      record {
        ends = ends_refused
            (words_refused store (lent out) (was_refused (accept store) (sym accepts.answer ∙ ap answered e))) refl;
        loaded = loaded;
        verdict = v;
        accepts = accepts;
        as_loaded = λ m y d. refl;
        kept = front_same loaded;
        sound = sound store (lent out);
      }
    where
      was_refused : (b : format.Answer Graph) → forget b ≡ refused_as why → b ≡ refused_as why
      was_refused (accepted g) z = absurd (clash (cc))
      was_refused (refused m y) z = cc

  pub record Accepting : Type 0 where
    pub graph : Graph
    pub is : accept store ≡ accepted graph
    pub stands : Stands loaded graph
    pub valid : Valid graph

  pub accepting : v ≡ Ok tt → Accepting
  accepting e = go (accept store) refl (sym accepts.answer ∙ ap answered e)
    where
      go : (b : format.Answer Graph) → accept store ≡ b → forget b ≡ accepted tt → Accepting
      go (accepted g) z y = record { graph = g; is = z; stands = accepts.stands g z; valid = accept_valid store g z }
      go (refused n x) z y = absurd (clash (cc))

  pub stood_loaded : v ≡ Ok tt → used ≤ length w → Stood loaded
  stood_loaded e room =
      let x = accepting e in
      let size = accepts.size in
      record { graph = x.graph; stands = x.stands; room = omega arith }

  pub nest_accepted : {w' out out' : List ℕ} {a : Result ℕ Refusal} → v ≡ Ok tt
      → OfRecord loaded (λ g. Valid g → NestsRecord g loaded w' out out' a) → Nests store w w' out out' a
  nest_accepted {out = out} e p =
      let x = accepting e in
      let y = p x.graph x.stands x.valid in
      let is = x.is in
      record {
        ends = rw (words_accepted store (lent out) is) y.ends;
        loaded = loaded;
        verdict = v;
        accepts = accepts;
        as_loaded = λ m z d. absurd (clash (cc));
        kept = y.front;
        sound = sound store (lent out);
      }
