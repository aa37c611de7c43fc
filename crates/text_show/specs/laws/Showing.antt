-- From what accepting answered to what is shown of it, and what a caller reads of that.
use Rattle.std.specs.Prelude.{◌≡◌, refl, List, ℕ, ◌≤◌, length, Ok, Err}
use Rattle.std.proofs.Common.{subst, arith}
use Rattle.meaning.specs.Graph.{Graph}
use Rattle.meaning.specs.facts.Tests.{clash}
use Rattle.format.specs.Store.{Answer, accepted, refused}
use Rattle.format.specs.Accept.{accept}
use Rattle.format.specs.laws.Stores.{AllBytes}
use Rattle.record.specs.Outcome.{forget}
use Rattle.record.specs.Stands.{OfRecord}
use Rattle.text.specs.Text.{refusal_text}
use Rattle.text.specs.Whole.{Written, full, Whole, InFront}
use Rattle.text.specs.laws.WholeTexts.{room_enough, in_front}
use Rattle.store.specs.Refusals.{refusal_number, refusal_word}
use Rattle.store.specs.declared.refusals.Refusal.{Refusal}
use Rattle.accept.specs.Accepts.{Accepts}
use Rattle.text_parts.specs.Listing.{listing_of, shown_text}
use Rattle.text_record.specs.laws.Fits.{shown_fits}
use Rattle.text_show.specs.Shows.{Shows}

module _ (s old new before after : List ℕ) (r : Written) (bytes : AllBytes s) where
  always : Whole (shown_text (accept s)) before after r → 65536 ≤ length before → r ≡ Ok (length (shown_text (accept s)))
  always w l = room_enough w (omega (arith, shown_fits s bytes))

  pub record_shown : Accepts s old new (Ok tt) → OfRecord new (λ g. Whole (listing_of g) before after r) → Shows s old new before after r
  record_shown a h =
      let text = by_answer (accept s) refl a.answer in
      record { text = text; fits = always text; verdict = Ok tt; words = a }
    where
      by_answer : (x : Answer Graph) → accept s ≡ x → accepted tt ≡ forget x → Whole (shown_text x) before after r
      by_answer (accepted g) q e = h g (a.stands g q)
      by_answer (refused n w) q e = absurd (clash (cc))

  pub refusal_shown : {why : Refusal} → Accepts s old new (Err why) → Whole (refusal_text (refusal_number why) (refusal_word why)) before after r
      → Shows s old new before after r
  refusal_shown {why} a h =
      let text = by_answer (accept s) a.answer in
      record { text = text; fits = always text; verdict = Err why; words = a }
    where
      by_answer : (x : Answer Graph) → refused (refusal_number why) (refusal_word why) ≡ forget x → Whole (shown_text x) before after r
      by_answer (accepted g) e = absurd (clash (cc))
      by_answer (refused m v) e =
          let same : ◌≡◌ {A = Answer Graph} (refused (refusal_number why) (refusal_word why)) (refused m v) = cc in
          subst (λ x. Whole (shown_text x) before after r) same h

pub never_full : {s old new before after : List ℕ} {r : Written} → Shows s old new before after r → 65536 ≤ length before → r ≡ full → ⊥
never_full x l too_small = let whole = x.fits l in clash (cc)

-- What is shown stands in front of the buffer.
pub shown_front : {s old new before after : List ℕ} {r : Written} {n : ℕ} → Shows s old new before after r → r ≡ Ok n
    → InFront (shown_text (accept s)) after n
shown_front x is = in_front x.text is
