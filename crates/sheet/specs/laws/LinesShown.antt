-- The lines behind line 1, by the outcome: what was put is what the answer's lines are.
use Rattle.std.specs.Prelude.{◌≡◌, refl, false, List, [], ℕ}
use Rattle.std.proofs.Common.{sym, append-nil, arith}
use Rattle.std.proofs.Math.Bool.{or-false}
use Rattle.meaning.specs.Graph.{Graph}
use Rattle.meaning.specs.facts.Tests.{clash}
use Rattle.record.specs.Stands.{OfRecord}
use Rattle.nesting.specs.Nesting.{NestState, Nested, Outcome, untouched, whole, closed, leftover, Piece, piece, conclude_with}
use Rattle.nesting.specs.Nesting.{unclaimed_from}
use Rattle.nesting.specs.Nesting.{look_up_piece, look_up_nodes}
use Rattle.sheet_words.specs.declared.place.Place.{Place}
use Rattle.sheet_words.specs.PutInFront.{Puts}
use Rattle.sheet_words.specs.laws.PutInFrontLaws.{puts_then, puts_none, puts_as}
use Rattle.sheet_words.specs.Parts.{each}
use Rattle.sheet_words.specs.laws.PartLaws.{parts_assoc}
use Rattle.sheet_nodes.specs.Pieces.{piece_part, lines_part, lines_are, twice_is}
use Rattle.sheet_nodes.specs.Regions.{PutsPiece, PutsWhole, PutsUnclaimed, PutsSets, PutsLeftover}
use Rattle.sheet.specs.Written.{ShowsAnswer, shows_untouched, shows_whole, shows_closed, shows_leftover, LinesPut}
use Rattle.sheet.specs.Written.{PutsLines, behind_head}

-- The entry, then the unclaimed regions, then the sets.
pub leftover_put : (w : List ℕ) {entry : ℕ} → OfRecord w (λ g. entry ≡ g.entry) → {out out₁ out₂ out₃ : List ℕ} {at at₁ at₂ at₃ : Place}
    → PutsSets w out at out₁ at₁ → PutsUnclaimed w out₁ at₁ out₂ at₂ → PutsPiece w entry out₂ at₂ out₃ at₃ → PutsLeftover w out at out₃ at₃
leftover_put w is_entry sets unclaimed first g s c ks d kind body =
    let is = is_entry g c.state.stands in
    let us = unclaimed_from g 0 s.region_states in
    let p = piece g g.entry ks [] d in
    let q = rw is at (first g s c ks (rw is body.nodes)) in
    puts_as (puts_then (puts_then (sets g s c ks d (record { kind = kind; set = body.set })) (unclaimed g s c)) q)
    (sym (parts_assoc (piece_part g s p) (each (piece_part g s) us) _))

-- ---- By the outcome.
module _ (g : Graph) (s : NestState) (o : Outcome) (p : Piece) (us : List Piece) (t : ((conclude_with g s o p us).outcome ≡ untouched) → ⊥)
    {out out' : List ℕ} {at at' : Place} where
  put_as : Puts out at (lines_part g s p us) out' at' → LinesPut s (conclude_with g s o p us) out at out' at'
  put_as q =
      record {
        twice = (lines_part g s p us).twice;
        noted = sym (twice_is g s o p us);
        puts = puts_as q (record_is (behind o (λ e. t e)));
      }
    where
      behind : (o : Outcome) → (o ≡ untouched → ⊥) → (lines_part g s p us).value ≡ behind_head (conclude_with g s o p us)
      behind untouched e = absurd (e refl)
      behind whole e = sym (lines_are g s whole p us)
      behind closed e = sym (lines_are g s closed p us)
      behind leftover e = sym (lines_are g s leftover p us)

      record_is : {xs : List ℕ} → (lines_part g s p us).value ≡ xs
          → lines_part g s p us ≡ record { value = xs; twice = (lines_part g s p us).twice }
      record_is e = rw e

-- One region alone, with no set.
alone : (g : Graph) (s : NestState) (p : Piece) → p.deferred ≡ [] → piece_part g s p ≡ lines_part g s p []
alone g s p e = rw (
  e,
  append-nil (piece_part g s p).value,
  append-nil (piece_part g s p).value,
  or-false (piece_part g s p).twice,
  or-false (piece_part g s p).twice,
)

module _ (w : List ℕ) {out out' : List ℕ} {at at' : Place} where
  pub lines_whole : {outcome : ℕ} → outcome ≡ 1 → PutsWhole w out at out' at' → PutsLines w outcome out at out' at'
  lines_whole e q g s c x shown = go x shown e
    where
      go : (x : Nested) {m : ℕ} → ShowsAnswer g w s x m → m ≡ 1 → LinesPut s x out at out' at'
      go x (shows_untouched z) e = absurd (omega arith)
      go x (shows_whole {ks} {e = d} b z) e =
          let p = piece g g.entry ks d.target_inputs [] in
          rw z (put_as g s whole p [] (λ y. clash (cc)) (puts_as (q g s c ks d b) (alone g s p refl)))
      go x (shows_closed b z) e = absurd (omega arith)
      go x (shows_leftover k b z) e = absurd (omega arith)

  pub lines_closed : {outcome entry : ℕ} → outcome ≡ 2 → OfRecord w (λ g. entry ≡ g.entry) → PutsPiece w entry out at out' at'
      → PutsLines w outcome out at out' at'
  lines_closed e is_entry q g s c x shown = go x shown e
    where
      go : (x : Nested) {m : ℕ} → ShowsAnswer g w s x m → m ≡ 2 → LinesPut s x out at out' at'
      go x (shows_untouched z) e = absurd (omega arith)
      go x (shows_whole b z) e = absurd (omega arith)
      go x (shows_closed {ks} b z) e =
          let p = piece g g.entry ks [] [] in
          let is = is_entry g c.state.stands in
          let r = rw is at (q g s c ks (rw is b.nodes)) in
          rw z (put_as g s closed p [] (λ y. clash (cc)) (puts_as r (alone g s p refl)))
      go x (shows_leftover k b z) e = absurd (omega arith)

  pub lines_leftover : {outcome : ℕ} → outcome ≡ 3 → PutsLeftover w out at out' at' → PutsLines w outcome out at out' at'
  lines_leftover e q g s c x shown = go x shown e
    where
      go : (x : Nested) {m : ℕ} → ShowsAnswer g w s x m → m ≡ 3 → LinesPut s x out at out' at'
      go x (shows_untouched z) e = absurd (omega arith)
      go x (shows_whole b z) e = absurd (omega arith)
      go x (shows_closed b z) e = absurd (omega arith)
      go x (shows_leftover {ks} {d} k b z) e =
          rw z
          (put_as g s leftover (piece g g.entry ks [] d) (unclaimed_from g 0 s.region_states) (λ y. clash (cc)) (q g s c ks d k b))

pub lines_none : (w : List ℕ) {outcome : ℕ} → (outcome ≡ 1 → ⊥) → (outcome ≡ 2 → ⊥) → (outcome ≡ 3 → ⊥) → (out : List ℕ) (at : Place)
    → PutsLines w outcome out at out at
unfolding look_up_piece look_up_nodes
lines_none w a b d out at g s c x shown = go x shown a b d
  where
    go : (x : Nested) {m : ℕ} → ShowsAnswer g w s x m → (m ≡ 1 → ⊥) → (m ≡ 2 → ⊥) → (m ≡ 3 → ⊥) → LinesPut s x out at out at
    go x (shows_untouched z) a b d = rw z (record { twice = false; noted = refl; puts = puts_none out at })
    go x (shows_whole _ z) a b d = absurd (a refl)
    go x (shows_closed _ z) a b d = absurd (b refl)
    go x (shows_leftover _ _ z) a b d = absurd (d refl)
