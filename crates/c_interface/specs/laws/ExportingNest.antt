-- From the nester's answer to its number.
use Rattle.std.specs.Prelude.{◌≡◌, List, ℕ, ◌+◌, ◌*◌, ◌<◌, Ok, Err}
use Rattle.std.proofs.Common.{◌∙◌, arith}
use Rattle.store.specs.Refusals.{refusal_number, refusal_word}
use Rattle.store.specs.declared.refusals.Refusal.{Refusal}
use Rattle.nester.specs.Nests.{Nests}
use Rattle.c_interface.specs.Exported.{NestExported}
use Rattle.c_interface.specs.laws.Counted.{same_length, not_refused, not_accepted, same_refusal}

module _ (s old new out out' : List ℕ) where
  pub sheet_exported : {n a : ℕ} → a ≡ n → Nests s old new out out' (Ok n) → NestExported s old new out out' a
  sheet_exported {n} e h =
      record {
        answer = Ok n;
        nests = h;
        is = e;
        if_sheet = λ ws f. e ∙ same_length h.ends.answer f;
        if_refused = λ m w f. absurd (not_refused h.ends.answer f);
      }

  pub refusal_exported : {why : Refusal} {a b : ℕ} → a ≡ refusal_number why → b ≡ refusal_word why → b < 4294967296
      → Nests s old new out out' (Err why) → NestExported s old new out out' (a * 4294967296 + b)
  refusal_exported {why} {a} {b} p q small h =
      record {
        answer = Err why;
        nests = h;
        is = cc;
        if_sheet = λ ws f. absurd (not_accepted h.ends.answer f);
        if_refused = λ m v f.
            let same = same_refusal h.ends.answer f in
            let m_is : a ≡ m = p ∙ same.0 in
            let v_is : b ≡ v = q ∙ same.1 in
            (omega arith, omega arith);
      }
