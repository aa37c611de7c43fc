-- Numbers put in front of others, with one count for all. The count is held at the largest word, and stays right so.
use Rattle.std.specs.Prelude.{◌≡◌, List, [], ◌++◌, ℕ, ◌+◌, ◌≤◌, ◌<◌, length}
use Rattle.std.proofs.Common.{sym, ◌∙◌, arith, length-append, le-leb}
use Rattle.std.proofs.Math.Decide.{dec_lt}
use Rattle.std.proofs.lemmas.Bool.{lt-leb}
use Rattle.sheet_words.specs.laws.PutInFrontLaws.{puts_then, puts_none}
use Rattle.sheet_words.specs.Parts.{most}
use Rattle.sheet_regions.specs.declared.Counted.{Counted}
use Rattle.sheet_regions.specs.Numbers.{PutsNumbers}

-- ---- Held at the largest word.
pub most_whole : (n : ℕ) → n ≤ 4294967295 → n ≡ most n
most_whole n h = rw (le-leb n 4294967295 h)

pub most_capped : (n : ℕ) → 4294967295 < n → 4294967295 ≡ most n
most_capped n h = rw (lt-leb n 4294967295 h)

most_then : (a m n : ℕ) → most (most (a + m) + n) ≡ most (a + (n + m))
most_then a m n =
    elim (dec_lt 4294967295 (a + m)) [
      | yes h ↦ elim (dec_lt 0 n) [
        | yes p ↦ (let e = most_capped (a + m) h in
            rw (← e) (sym (most_capped (4294967295 + n) (omega arith)) ∙ most_capped (a + (n + m)) (omega arith)))
        | no p ↦ (let e = most_capped (a + m) h in
            rw (← e) (let z : 4294967295 + n ≡ 4294967295 = omega arith in rw z (most_capped (a + (n + m)) (omega arith))))
      ]
      | no h ↦ (let e = most_whole (a + m) (omega arith) in
          rw (← e) (let z : a + m + n ≡ a + (n + m) = omega arith in rw z))
    ]

-- ---- Some numbers, and others in front of them.
pub numbers_none : (out : List ℕ) (x : Counted) → x.count ≤ 4294967295 → PutsNumbers out x [] out x
numbers_none out x h =
    record {
      puts = puts_none out x.at;
      count = let e : x.count + 0 ≡ x.count = omega arith in rw e (most_whole x.count h);
    }

pub numbers_then : {out out₁ out₂ : List ℕ} {x x₁ x₂ : Counted} {ns ms : List ℕ} → PutsNumbers out x ms out₁ x₁
    → PutsNumbers out₁ x₁ ns out₂ x₂ → PutsNumbers out x (ns ++ ms) out₂ x₂
numbers_then {x = x} {ns = ns} {ms} p q =
    record {
      puts = puts_then p.puts q.puts;
      count = q.count ∙ rw (p.count, length-append ns ms) (most_then x.count (length ms) (length ns));
    }

pub numbers_as : {out out' : List ℕ} {x x' : Counted} {ns ms : List ℕ} → PutsNumbers out x ns out' x' → ns ≡ ms
    → PutsNumbers out x ms out' x'
numbers_as p e = rw e at p
