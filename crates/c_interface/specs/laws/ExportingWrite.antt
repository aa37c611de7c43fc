-- From the writer's answer to its number.
use Rattle.std.specs.Prelude.{◌≡◌, refl, List, ℕ, ◌+◌, ◌*◌, ◌<◌, Ok, Err}
use Rattle.std.proofs.Common.{◌∙◌, arith}
use Rattle.store.specs.Refusals.{refusal_number, refusal_word}
use Rattle.store.specs.declared.refusals.Refusal.{Refusal}
use Rattle.store.specs.Writes.{WritesStore}
use Rattle.c_interface.specs.Exported.{WriteExported}
use Rattle.c_interface.specs.laws.Counted.{same_length, not_refused, not_accepted, same_refusal}

module _ (w out out' : List ℕ) where
  pub store_exported : {n a : ℕ} → a ≡ n → WritesStore w out out' (Ok n) → WriteExported w w out out' a
  store_exported {n} e h =
      record {
        answer = Ok n;
        writes = h;
        kept = refl;
        is = e;
        if_written = λ bs f. e ∙ same_length h.answer f;
        if_refused = λ m x f. absurd (not_refused h.answer f);
      }

  pub refusal_exported : {why : Refusal} {a : ℕ} → a ≡ refusal_number why * 65536 + refusal_word why → refusal_word why < 65536
      → WritesStore w out out' (Err why) → WriteExported w w out out' a
  refusal_exported {why} p small h =
      record {
        answer = Err why;
        writes = h;
        kept = refl;
        is = p;
        if_written = λ bs f. absurd (not_accepted h.answer f);
        if_refused = λ m v f.
            let same = same_refusal h.answer f in
            let m_is : refusal_number why ≡ m = same.0 in
            let v_is : refusal_word why ≡ v = same.1 in
            (omega arith, omega arith);
      }
