-- The verdict of reading and references, by the answers that the code has.
use Rattle.std.specs.Prelude.{◌≡◌, refl, List, ℕ, Result, Ok, Err}
use Rattle.std.proofs.Common.{sym, ap, ◌∙◌}
use Rattle.meaning.specs.Graph.{Graph}
use Rattle.format.specs.Store.{Answer, accepted, refused, if_accepted}
use Rattle.format.specs.References.{references}
use Rattle.format.specs.Accept.{with_references}
use Rattle.meaning.specs.facts.Tests.{clash}
use Rattle.store.specs.Loaded.{answered}
use Rattle.store.specs.Refusals.{refused_as}
use Rattle.store.specs.declared.refusals.Refusal.{Refusal}
use Rattle.record.specs.Outcome.{forget, record_in, ReadOutcome}
use Rattle.record.specs.laws.Parts.{then, accepted_value}
use Rattle.record.specs.Stands.{OfRecord}
use Rattle.accept.specs.Judged.{words_given, not_given}
use Rattle.accept.specs.Accepts.{ReadChecked}

forget_then : (a : Answer Unit) (g : Graph) → forget (if_accepted a λ _. accepted g) ≡ a
forget_then (accepted u) g = refl
forget_then (refused n w) g = refl

-- the record that was read is the graph
same_graph : {g : Graph} (a : Answer Unit) (x : Graph) → if_accepted a (λ _. accepted x) ≡ accepted g → x ≡ g
same_graph a x h = accepted_value (then a (λ _. accepted x) _ h).second

module _ {old new : List ℕ} {read : Result (Unit {0}) Refusal} (r : ReadOutcome old new read) where
  pub unread : {why : Refusal} → read ≡ Err why → ReadChecked old new (Err why)
  unread {why} e =
      let bad : record_in old ≡ refused_as why = not_given (record_in old) (sym (ap answered e) ∙ r.answer) in
      let none = ap with_references bad in
      record {
        judged = record { answer = sym (ap forget none); stands = λ g f. absurd (clash (cc)) };
        kept = r.kept;
      }

  pub by_references : {a : Result (Unit {0}) Refusal} → read ≡ Ok tt → OfRecord new (λ g. answered a ≡ references g) → ReadChecked old new a
  by_references {a} e refs =
      let x = words_given (record_in old) (sym (ap answered e) ∙ r.answer) in
      let g = x.value in
      let s = r.stands g x.is in
      let whole : with_references (record_in old) ≡ if_accepted (references g) (λ _. accepted g) = ap with_references x.is in
      record {
        judged = record {
          answer = refs g s ∙ sym (ap forget whole ∙ forget_then (references g) g);
          stands = λ g' f. rw (same_graph (references g) g (sym whole ∙ f)) at s;
        };
        kept = r.kept;
      }
