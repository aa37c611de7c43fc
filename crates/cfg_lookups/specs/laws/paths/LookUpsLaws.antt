-- For the proofs of look_up.rt: a turn of the loop along a chain of rewrites, by the entry that was read, leaves the same look_up to do.
use Rattle.std.specs.Prelude.{◌≡◌, true, false, List, ℕ, suc, ◌-◌, ◌≤◌, ◌<◌}
use Rattle.std.proofs.Common.{sym, ap, ◌∙◌, arith}
use borrow.Author.Tests.{eq-eqb, ne_eqb}
use Rattle.state_nodes.specs.NodeTables.{rewrite_kind}
use Rattle.state_words.specs.Values.{is_input, input_region, input_index}
use Rattle.cfg_lookups.specs.declared.look_up.LookUp.{LookUp}
use Rattle.meaning.specs.Lists.{pick}
use Rattle.cfg_lookups.specs.LookUps.{plain, kind_at, entry_at, stays, renumbers, turns}
use Rattle.state_words.specs.Rows.{rewrite_value, entry_none}

-- ---- A turn of the code's loop, by what it read: the region, its entry's kind, the index, the entry's word.
module _ (l : List ℕ) (n x r k i y : ℕ) {whole : LookUp} (some_left : 0 < n) (left : turns n l x ≡ whole) where
  again : suc (n - 1) ≡ n
  again = omega arith

  pub turn_stays : is_input x ≡ false → stays l x ≡ whole
  unfolding turns
  turn_stays e = rw e at (rw (← again) at left)

  module _ (an_input : is_input x ≡ true) (of_region : r ≡ input_region x) (kind : k ≡ rewrite_kind l r) where
    pub turn_none : k ≡ entry_none → plain x ≡ whole
    unfolding turns
    turn_none e =
        let h : kind_at l x ≡ entry_none = rw of_region at (sym kind ∙ e) in
        rw (an_input, eq-eqb (kind_at l x) entry_none h) at (rw (← again) at left)

    module _ (not_None : k ≡ entry_none → ⊥) (index : i ≡ input_index x) (entry : y ≡ rewrite_value l r i) where
      kind_is : k ≡ kind_at l x
      kind_is = kind ∙ ap (λ q. rewrite_kind l q) of_region

      entry_is : y ≡ entry_at l x
      entry_is = entry ∙ rw (of_region, index)

      there : pick (renumbers k y) (plain y) (turns (n - 1) l y) ≡ whole
      unfolding turns
      there =
          rw (kind_is, entry_is)
          (rw (an_input, ne_eqb (kind_at l x) entry_none (λ e. not_None (kind_is ∙ e))) at (rw (← again) at left))

      pub turn_renumbers : renumbers k y ≡ true → plain y ≡ whole
      turn_renumbers e = rw e at there

      pub turn_on : renumbers k y ≡ false → turns (n - 1) l y ≡ whole
      turn_on e = rw e at there

pub turns_over : (l : List ℕ) (n x : ℕ) {whole : LookUp} → n ≤ 0 → turns n l x ≡ whole → plain x ≡ whole
unfolding turns
turns_over l n x h e = let z : n ≡ 0 = omega arith in rw z at e
