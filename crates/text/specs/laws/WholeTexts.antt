-- A text that is whole: where it stands, and what a buffer too small gets.
use Rattle.std.specs.Prelude.{◌≡◌, refl, Bool, true, false, List, [], ◌∷◌, ◌++◌, ℕ, suc, ◌+◌, ◌≤◌, ◌<◌, min, length, take, drop, leb, Ok}
use Rattle.std.proofs.Common.{sym, ap, ◌∙◌, append-nil, arith, length-append, take_all, take_at, le-leb, leb-true, leb-false}
use Rattle.std.proofs.lemmas.List.{set_at}
use Rattle.std.proofs.Math.Seq.{set_out, take-nil, append_snoc}
use Rattle.std.proofs.lemmas.Bool.{lt-leb}
use Rattle.text.specs.Buffer.{buffer, puts, Wrote}
use Rattle.meaning.specs.Lists.{pick}
use Rattle.meaning.specs.facts.Tests.{clash}
use Rattle.text.specs.Whole.{Written, full, written_to, Whole, InFront}

beyond : (t b : List ℕ) (at : ℕ) → length b < at → puts (buffer b at) t ≡ buffer b at
unfolding puts
beyond [] b at h = refl
beyond (x ∷ t) b at h = rw (lt-leb at (length b) h, set_out b at x (omega arith)) (beyond t b at h)

same : {b c : List ℕ} {p q : ℕ} → b ≡ c → p ≡ q → buffer b p ≡ buffer c q
same {b} {q = q} e f = ap (buffer b) f ∙ ap (λ x. buffer x q) e

-- A text behind what stands already.
behind : (t rest front : List ℕ) (at : ℕ) → length front ≡ at
    → puts (buffer (front ++ rest) at) t ≡ buffer (front ++ (take (length rest) t ++ drop (length t) rest))
    (at + min (length t) (length rest + 1))
unfolding puts
behind [] rest front at h = same (ap (λ l. front ++ (l ++ rest)) (sym (take-nil (length rest)))) (omega arith)
behind (x ∷ t) [] front at h =
    let size : length (front ++ []) ≡ at = ap length (append-nil front) ∙ h in
    rw (le-leb at (length (front ++ [])) (omega arith), set_out (front ++ []) at x (omega arith))
    (beyond t (front ++ []) (at + 1) (omega arith) ∙ same refl (omega arith))
behind (x ∷ t) (y ∷ rest) front at h =
    let size : length (front ++ (y ∷ rest)) ≡ at + suc (length rest) = length-append front (y ∷ rest) ∙ ap (λ n. n + suc (length rest)) h in
    rw (le-leb at (length (front ++ (y ∷ rest))) (omega arith), set_at front y rest x at h, ← append_snoc front x rest)
    (behind t rest (front ++ (x ∷ [])) (at + 1) (length-append front (x ∷ []) ∙ ap (λ n. n + 1) h)
    ∙ same (append_snoc front x _) (omega arith))

answer_by : (t : Bool) (size room place : ℕ) → leb size room ≡ t → place ≡ min size (room + 1)
    → written_to room place ≡ pick t (Ok size) full
answer_by true size room place e h =
    let fits : size ≤ room = leb-true size room e in
    let q : place ≡ size = omega arith in
    rw (q, e)
answer_by false size room place e h =
    let over : room < size = leb-false size room e in
    rw (lt-leb place room (omega arith))

pub whole : (text before after : List ℕ) (place : ℕ) → Wrote (buffer before 0) text (buffer after place)
    → Whole text before after (written_to (length before) place)
whole text before after place w =
    let e : buffer after place ≡ buffer (take (length before) text ++ drop (length text) before)
    (0 + min (length text) (length before + 1)) = w.is ∙ behind text before [] 0 refl in
    record {
      answer = answer_by _ (length text) (length before) place refl (ap (λ o. o.place) e ∙ omega arith);
      bytes =
          ap (λ o. o.bytes) e;
    }

-- A buffer of the text's length or more holds it whole.
pub room_enough : {text before after : List ℕ} {r : Written} → Whole text before after r → length text ≤ length before
    → r ≡ Ok (length text)
room_enough {text} {before} w l = w.answer ∙ rw (le-leb (length text) (length before) l)

pub in_front : {text before after : List ℕ} {r : Written} {n : ℕ} → Whole text before after r → r ≡ Ok n → InFront text after n
in_front {text} {before} {after} {r} {n} w is = by_answer (leb (length text) (length before)) refl
  where
    by_answer : (t : Bool) → leb (length text) (length before) ≡ t → InFront text after n
    by_answer true e =
        let fits : length text ≤ length before = leb-true _ _ e in
        let whole = room_enough w fits in
        let size : n ≡ length text = cc in
        let parts : after ≡ text ++ drop (length text) before =
        w.bytes ∙ ap (λ t. t ++ drop (length text) before) (take_all (length before) text fits) in
        record {
          within = rw (size, parts) (simp length-append (omega arith));
          is = ap (λ a. take n a) parts ∙ take_at text _ n (sym size);
        }
    by_answer false e =
        let none : r ≡ full = w.answer ∙ rw e in
        absurd (clash (cc))
