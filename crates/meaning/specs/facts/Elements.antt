-- Elements of a list: by place, by membership, under a map, by their number; what one or each has; a table of a function; lists that
-- gain; equal lists.
use Rattle.std.specs.Prelude.{Bool, true, false, ◌&&◌, ◌||◌, ◌⊎◌, ◌≡◌, refl, ◌<◌, suc, zero, ℕ, ◌≤◌, ◌+◌, get_or, length, take, drop, set, replicate, eqb}
use Rattle.std.proofs.Math.Bool.{or_assoc}
use mathlib.Core.List.Memᴰ
use mathlib.Core.List.{List, [], ◌++◌, ◌∷◌, map, append_assoc, append-nil, Memᴰ}
use Rattle.std.proofs.Common.{inl, inr, ap, sym, ◌∙◌, arith, add-zero, not-suc-le-zero, add-one, length-append, get_or-drop, drop-cons, eqb-true}
use Rattle.std.proofs.Math.Option.{Option, none, some}
use Rattle.std.proofs.Math.Decide.{dec_lt, ℕ_discrete}
use Rattle.std.proofs.Math.ListN.{get_or-append}
use Rattle.std.proofs.Math.Seq.{get_or-append_seam, append_snoc}
use Rattle.std.proofs.lemmas.List.{set_at}
use Rattle.meaning.specs.Lists.{pick, any, concat, filter, numbers_from, All, tabulate}
use Rattle.meaning.specs.facts.Tests.{clash, and_both, or_left, or_right, or_mixed}

abbrev pub nth : {A : Type 0} → List A → ℕ → Option A
nth [] k = none
nth (x ∷ xs) zero = some x
nth (x ∷ xs) (suc k) = nth xs k

pub nth_append : {A : Type 0} (a b : List A) (k : ℕ) (x : A) → nth a k ≡ some x → nth (a ++ b) k ≡ some x
nth_append [] b k x p = absurd (clash (cc))
nth_append (y ∷ a) b zero x p = p
nth_append (y ∷ a) b (suc k) x p = nth_append a b k x p

pub nth_last : {A : Type 0} (a : List A) (x : A) → nth (a ++ (x ∷ [])) (length a) ≡ some x
nth_last [] x = refl
nth_last (y ∷ a) x = nth_last a x

pub nth_getD : {A : Type 0} (l : List A) (j : ℕ) (d : A) → j < length l → nth l j ≡ some (get_or l j d)
nth_getD [] j d lt = absurd (omega arith)
nth_getD (x ∷ l) zero d lt = refl
nth_getD (x ∷ l) (suc j) d lt = nth_getD l j d (omega arith)

pub nth_map : {A B : Type 0} (f : A → B) (l : List A) (j : ℕ) (a : A) → nth l j ≡ some a → nth (map f l) j ≡ some (f a)
nth_map f [] j a p = absurd (clash (cc))
nth_map f (x ∷ l) zero a p = let e : x ≡ a = cc in rw e
nth_map f (x ∷ l) (suc j) a p = nth_map f l j a p

abbrev pub In : {A : Type 0} → A → List A → Type 0
In x [] = ⊥
In x (y ∷ ys) = (x ≡ y) ⊎ In x ys

pub in_map : {A B : Type 0} (f : A → B) (l : List A) (x : A) → In x l → In (f x) (map f l)
in_map f [] x i = absurd i
in_map f (y ∷ l) x (inl p) = inl (ap f p)
in_map f (y ∷ l) x (inr i) = inr (in_map f l x i)

pub from_map : {A B : Type 0} (f : A → B) (l : List A) (y : B) → In y (map f l) → (x : A) × In x l × (y ≡ f x)
from_map f [] y i = absurd i
from_map f (x ∷ l) y (inl p) = (x, inl refl, p)
from_map f (x ∷ l) y (inr i) = let z = from_map f l y i in (z.0, inr z.1, z.2)

pub nth_in : {A : Type 0} (l : List A) (j : ℕ) (a : A) → nth l j ≡ some a → In a l
nth_in [] j a p = absurd (clash (cc))
nth_in (x ∷ l) zero a p = inl (cc)
nth_in (x ∷ l) (suc j) a p = inr (nth_in l j a p)

pub getD_map_in : {A B : Type 0} (f : A → B) (l : List A) (k : ℕ) (d : A) (d' : B) → k < length l → get_or (map f l) k d' ≡ f (get_or l k d)
getD_map_in f [] k d d' lt = absurd (omega arith)
getD_map_in f (x ∷ l) zero d d' lt = refl
getD_map_in f (x ∷ l) (suc k) d d' lt = getD_map_in f l k d d' (omega arith)

pub getD_within : (xs : List ℕ) (k : ℕ) → 1 ≤ get_or xs k 0 → k < length xs
getD_within [] k h = absurd (omega arith)
getD_within (x ∷ xs) zero h = omega arith
getD_within (x ∷ xs) (suc k) h = omega (arith, getD_within xs k h)

-- ---- a list by its length
pub no_element : {A : Type 0} (xs : List A) → length xs ≤ 0 → [] ≡ xs
no_element [] l = refl
no_element (x ∷ xs) l = absurd (omega arith)

pub one_element : {A : Type 0} (d : A) (xs : List A) → 1 ≤ length xs → length xs ≤ 1 → get_or xs 0 d ∷ [] ≡ xs
one_element d [] l h = absurd (omega arith)
one_element d (x ∷ []) l h = refl
one_element d (x ∷ y ∷ xs) l h = absurd (omega arith)

-- ---- a number for each place
pub numbered_map : {A : Type 0} (f : ℕ → ℕ) (k : ℕ) (l : List A) (r : ℕ) → r < length l → get_or (map f (numbers_from k l)) r 0 ≡ f (k + r)
numbered_map f k [] r h = absurd (omega arith)
numbered_map f k (x ∷ l) zero h = let z : k ≡ k + 0 = omega arith in ap f z
numbered_map f k (x ∷ l) (suc r) h = let z : suc k + r ≡ k + suc r = omega arith in numbered_map f (suc k) l r (omega arith) ∙ ap f z

-- ---- what one has
pub any_snoc : {A : Type 0} (p : A → Bool) (xs : List A) (x : A) → any p (xs ++ (x ∷ [])) ≡ (any p xs || (p x || false))
any_snoc p [] x = refl
any_snoc p (y ∷ xs) x = ap (λ b. p y || b) (any_snoc p xs x) ∙ sym (or_assoc (p y) (any p xs) (p x || false))

pub any_mixed : {A : Type 0} (c o d : A → Bool) (xs : List A)
    → any (λ x. (c x || o x) || d x) xs ≡ (any (λ x. o x || c x) xs || any d xs)
any_mixed c o d [] = refl
any_mixed c o d (x ∷ xs) =
    ap (λ z. ((c x || o x) || d x) || z) (any_mixed c o d xs)
    ∙ or_mixed (c x) (o x) (d x) (any (λ x. o x || c x) xs) (any d xs)

-- ---- what each has
pub all_map : {A : Type 0} (P Q : A → Type 0) → ((x : A) → P x → Q x) → (xs : List A) → All P xs → All Q xs
all_map P Q f [] h = tt
all_map P Q f (x ∷ xs) h = (f x h.0, all_map P Q f xs h.1)

pub all_append : {A : Type 0} (P : A → Type 0) (xs ys : List A) → All P xs → All P ys → All P (xs ++ ys)
all_append P [] ys h k = k
all_append P (x ∷ xs) ys h k = (h.0, all_append P xs ys h.1 k)

pub all_parts : {A : Type 0} (P : A → Type 0) (xs ys : List A) → All P (xs ++ ys) → All P xs × All P ys
all_parts P [] ys h = (tt, h)
all_parts P (x ∷ xs) ys h = let z = all_parts P xs ys h.1 in ((h.0, z.0), z.1)

pub all_at : {A : Type 0} (P : A → Type 0) (d : A) (xs : List A) → All P xs → (k : ℕ) → k < length xs → P (get_or xs k d)
all_at P d [] h k l = absurd (omega arith)
all_at P d (x ∷ xs) h zero l = h.0
all_at P d (x ∷ xs) h (suc k) l = all_at P d xs h.1 k (omega arith)

pub all_get_d : {A : Type 0} (P : A → Type 0) (d : A) → P d → (xs : List A) → All P xs → (k : ℕ) → P (get_or xs k d)
all_get_d P d z [] h k = z
all_get_d P d z (x ∷ xs) h zero = h.0
all_get_d P d z (x ∷ xs) h (suc k) = all_get_d P d z xs h.1 k

pub all_mapped : {A B : Type 0} (f : A → B) (P : A → Type 0) (Q : B → Type 0) → ((x : A) → P x → Q (f x)) → (xs : List A) → All P xs
    → All Q (map f xs)
all_mapped f P Q q [] h = tt
all_mapped f P Q q (x ∷ xs) h = (q x h.0, all_mapped f P Q q xs h.1)

pub all_filter : {A : Type 0} (P : A → Type 0) (p : A → Bool) (xs : List A) → All P xs → All P (filter p xs)
all_filter P p [] h = tt
all_filter P p (x ∷ xs) h = go (p x) (all_filter P p xs h.1)
  where
    go : (b : Bool) → All P (filter p xs) → All P (pick b (x ∷ filter p xs) (filter p xs))
    go true k = (h.0, k)
    go false k = k

pub all_take : {A : Type 0} (P : A → Type 0) (n : ℕ) (xs : List A) → All P xs → All P (take n xs)
all_take P zero xs h = tt
all_take P (suc n) [] h = tt
all_take P (suc n) (x ∷ xs) h = (h.0, all_take P n xs h.1)

pub all_set : {A : Type 0} (P : A → Type 0) (xs : List A) → All P xs → (k : ℕ) (x : A) → P x → All P (set xs k x)
all_set P [] h k x p = tt
all_set P (y ∷ xs) h zero x p = (p, h.1)
all_set P (y ∷ xs) h (suc k) x p = (h.0, all_set P xs h.1 k x p)

pub all_replicate : {A : Type 0} (P : A → Type 0) (x : A) → P x → (n : ℕ) → All P (replicate n x)
all_replicate P x p zero = tt
all_replicate P x p (suc n) = (p, all_replicate P x p n)

-- ---- a table of a function
pub length_tabulate : (n : ℕ) (f : ℕ → ℕ) → length (tabulate n f) ≡ n
unfolding tabulate
length_tabulate zero f = refl
length_tabulate (suc n) f = rw (length-append (tabulate n f) (f n ∷ []), length_tabulate n f) (omega arith)

pub tabulate_at : (n : ℕ) (f : ℕ → ℕ) (j : ℕ) → j < n → get_or (tabulate n f) j 0 ≡ f j
unfolding tabulate
tabulate_at zero f j h = absurd (not-suc-le-zero h)
tabulate_at (suc n) f j h = at (tabulate_at n f j) (dec_lt j n)
  where
    at : (j < n → get_or (tabulate n f) j 0 ≡ f j) → Dec (j < n) → get_or (tabulate n f ++ (f n ∷ [])) j 0 ≡ f j
    at i (yes l) = get_or-append (tabulate n f) (f n ∷ []) 0 j (omega (arith, length_tabulate n f)) ∙ i l
    at i (no g) =
        ap (λ k. get_or (tabulate n f ++ (f n ∷ [])) k 0) (omega (arith, length_tabulate n f))
        ∙ get_or-append_seam (tabulate n f) (f n) [] 0
        ∙ ap f (omega arith)

pub all_tabulate : (P : ℕ → Type 0) (n : ℕ) (f : ℕ → ℕ) → ((j : ℕ) → P (f j)) → All P (tabulate n f)
unfolding tabulate
all_tabulate P zero f h = tt
all_tabulate P (suc n) f h = all_append P (tabulate n f) (f n ∷ []) (all_tabulate P n f h) (h n, tt)

pub in_tabulate : (n : ℕ) (f : ℕ → ℕ) (j : ℕ) → j < n → Memᴰ (f j) (tabulate n f)
unfolding tabulate
in_tabulate zero f j h = absurd (not-suc-le-zero h)
in_tabulate (suc n) f j h =
    elim (ℕ_discrete j n) [
      | yes e ↦ Memᴰ.append_right (tabulate n f) (Memᴰ.head (ap f e))
      | no d ↦ Memᴰ.append_left (f n ∷ []) (in_tabulate n f j (omega arith))
    ]

-- In front of a list: one more of the table is one more that is stored.
pub tabulate_more : (n : ℕ) (f : ℕ → ℕ) (l : List ℕ) → n < length l
    → set (tabulate n f ++ drop n l) n (f n) ≡ tabulate (n + 1) f ++ drop (n + 1) l
unfolding tabulate
tabulate_more n f l h =
    rw (add-one, drop-cons l n 0 h, append_snoc) (set_at (tabulate n f) _ _ (f n) n (length_tabulate n f))

-- ---- a list and what it gains at its end
pub record Extends {A : Type 0} (a b : List A) : Type 0 where
  pub more : List A
  pub whole : b ≡ a ++ more

pub extends_same : {A : Type 0} {a b : List A} → b ≡ a → Extends a b
extends_same {a} e = record { more = []; whole = e ∙ sym (append-nil a) }

pub extends_refl : {A : Type 0} (a : List A) → Extends a a
extends_refl a = extends_same refl

pub extends_then : {A : Type 0} {a b c : List A} → Extends a b → Extends b c → Extends a c
extends_then {a} p q =
    record { more = p.more ++ q.more; whole = q.whole ∙ ap (λ l. l ++ q.more) p.whole ∙ append_assoc a p.more q.more }

-- ---- equal lists of numbers, by a test that computes to one bit
abbrev pub same_numbers : List ℕ → List ℕ → Bool
same_numbers [] [] = true
same_numbers [] (y ∷ ys) = false
same_numbers (x ∷ xs) [] = false
same_numbers (x ∷ xs) (y ∷ ys) = eqb x y && same_numbers xs ys

pub numbers_same : (xs ys : List ℕ) → same_numbers xs ys ≡ true → xs ≡ ys
numbers_same [] [] e = refl
numbers_same [] (y ∷ ys) e = cc
numbers_same (x ∷ xs) [] e = cc
numbers_same (x ∷ xs) (y ∷ ys) e =
    let h = and_both (eqb x y) (same_numbers xs ys) e in
    rw (eqb-true x y h.0, numbers_same xs ys h.1)

-- ---- by place
-- Within the list any default will do.
pub get_d_any : {A : Type 0} (l : List A) (k : ℕ) (a b : A) → k < length l → get_or l k a ≡ get_or l k b
get_d_any [] k a b h = absurd (omega arith)
get_d_any (x ∷ l) zero a b h = refl
get_d_any (x ∷ l) (suc k) a b h = get_d_any l k a b (omega arith)

pub first_dropped : {A : Type 0} (l : List A) (k : ℕ) (d : A) → get_or (drop k l) 0 d ≡ get_or l k d
first_dropped l k d = get_or-drop k l 0 d ∙ ap (λ i. get_or l i d) (add-zero k)

pub none_of : {A : Type 0} (f : A → Bool) (xs : List A) → any f xs ≡ false → (i : ℕ) (d : A) → i < length xs → f (get_or xs i d) ≡ false
none_of f [] e i d h = absurd (omega arith)
none_of f (x ∷ xs) e zero d h = or_left (f x) (any f xs) e
none_of f (x ∷ xs) e (suc i) d h = none_of f xs (or_right (f x) (any f xs) e) i d (omega arith)

-- What holds of each of a list, from place i on, and of one in front.
pub at_cons : {A : Type 0} (P : ℕ → A → Type 0) (z : A) (i n : ℕ) {x : A} (xs : List A) → P i x
    → ((j : ℕ) → j < n → P (suc i + j) (get_or xs j z)) → (j : ℕ) → j < suc n → P (i + j) (get_or (x ∷ xs) j z)
at_cons P z i n xs first rest zero h = let e : i + 0 ≡ i = omega arith in rw e first
at_cons P z i n xs first rest (suc j) h = let e : i + suc j ≡ suc i + j = omega arith in rw e (rest j (omega arith))

-- ---- lists of lists
pub concat_append : {A : Type 0} (xs ys : List (List A)) → concat (xs ++ ys) ≡ concat xs ++ concat ys
concat_append [] ys = refl
concat_append (x ∷ xs) ys = rw (concat_append xs ys) (sym (append_assoc x (concat xs) (concat ys)))
