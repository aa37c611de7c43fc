-- From the answer to its number.
use Rattle.std.specs.Prelude.{◌≡◌, refl, List, ℕ, ◌+◌, ◌*◌, ◌<◌, Ok, Err}
use Rattle.std.proofs.Common.{arith}
use Rattle.format.specs.Accept.{accept}
use Rattle.meaning.specs.facts.Tests.{clash}
use Rattle.format.proofs.laws.Refusals.{number_within}
use Rattle.store.specs.Refusals.{refusal_number, refusal_word}
use Rattle.store.specs.declared.refusals.Refusal.{Refusal}
use Rattle.accept.specs.Judged.{words_given, not_given}
use Rattle.accept.specs.Accepts.{Accepts}
use Rattle.c_interface.specs.Exported.{AcceptExported}

module _ (s old new : List ℕ) where
  pub record_exported : Accepts s old new (Ok tt) → AcceptExported s old new 0
  record_exported a =
      let taken = words_given (accept s) a.answer in
      record {
        answer = Ok tt;
        accepts = a;
        is = refl;
        if_accepted = λ _. refl;
        only_if_accepted = λ _. taken;
        if_refused = λ n w h. let is = taken.is in absurd (clash (cc));
      }

  pub refusal_exported : {why : Refusal} {a : ℕ} → a ≡ refusal_number why * 65536 + refusal_word why → refusal_word why < 65536
      → Accepts s old new (Err why) → AcceptExported s old new a
  refusal_exported {why} p small h =
      let bad = not_given (accept s) h.answer in
      let number = number_within s bad in
      record {
        answer = Err why;
        accepts = h;
        is = p;
        if_accepted = λ x. let is = x.is in absurd (clash (cc));
        only_if_accepted = λ z. absurd (omega arith);
        if_refused = λ m v f.
            let m_is : refusal_number why ≡ m = cc in
            let v_is : refusal_word why ≡ v = cc in
            (omega arith, omega arith);
      }
