-- A region's own blocks: the nested run does what the graph's does, and stands with it at the terminator.
use Rattle.std.specs.Prelude.{Bool, true, ◌≢◌, ◌≡◌, refl, eqb, take}
use Rattle.std.proofs.Math.Bool.{false}
use mathlib.Core.List.{List, [], ◌∷◌, map}
use Rattle.std.proofs.Common.{◌∙◌, ap, sym, eqb-true}
use Prim.Native.Nat.{◌+◌, ◌<◌, suc, zero, ℕ}
use native.Mathlib.Omega.{arith}
use Rattle.std.proofs.Math.ListN.{length}
use Rattle.std.proofs.lemmas.Bool.{eqb-false}
use Rattle.meaning.specs.Runs.{Nodes, by_terminator, enter, run_from, run_nodes, through, End, Env, Event, Rule, RunState, Word, do_block}
use Rattle.meaning.specs.Runs.{do_blocks, do_instr, put, put_inputs, word32}
use Rattle.meaning.specs.Graph.{Instr, Value, bool, const, held, input, instr, output, region, same_value, undef, no_value}
use Rattle.nesting.specs.Nesting.{block_count, blocks_from, blocks_of, NodeOutput, look_up_nodes}
use Rattle.nesting.specs.lookups.Rewriting.{rewrite_nodes, rewrite_reads}
use Rattle.follows.specs.simulation.Usable.{AllUsable, BlockUsable, BlocksUsable, UsableIn, after_blocks}
use Rattle.meaning.specs.facts.Tests.{eqb_self, or_left, or_right}
use Rattle.follows.specs.simulation.Key.{is_constant, is_instr, key, nodes_none, owns_nodes}
use Rattle.follows.specs.simulation.World.{World, ar, from_region, runs}
use Rattle.follows.specs.simulation.Tables.{Resolver, Respects, Tables}
use Rattle.follows.specs.simulation.Frame.{instr_other, put_other, put_same, puts_other}
use Rattle.follows.specs.simulation.Leads.{Based, InputsAre, Leads, LeadsTo, ends_with, none_run, read}
use Rattle.follows.specs.simulation.Inputs.{input_numbered, puts_at}

-- the two environments agree on what the region may use
pub record Agree (ρ : Resolver) (r ar k : ℕ) (a s : RunState) : Type 0 where
  pub events : a.events ≡ s.events
  pub reads : (v : Value) → UsableIn r ar k v → a.env v ≡ s.env (ρ v)

module _ (rule : Rule) (ρ : Resolver) (on_instr : (q k : ℕ) → ρ (instr q k) ≡ instr q k) (r ar : ℕ)
    -- constants and inputs do not resolve to the region's own instructions
    (os : List NodeOutput) (apart : (v : Value) → UsableIn r ar 0 v → is_instr r (key os (ρ v)) ≡ false) where
  pub reads_agree : (k : ℕ) (a s : RunState) → Agree ρ r ar k a s → (vs : List Value) → AllUsable r ar k vs
      → map a.env vs ≡ map s.env (map ρ vs)
  reads_agree k a s ag [] h = refl
  reads_agree k a s ag (v ∷ vs) (h, hs) = let p = ag.reads v h in let q = reads_agree k a s ag vs hs in cc

  elsewhere : (k : ℕ) (w : Word) (σ τ : Env) (v : Value) → UsableIn r ar 0 v → same_value v (instr r k) ≡ false → σ v ≡ τ (ρ v)
      → put (instr r k) w σ v ≡ put (instr r k) w τ (ρ v)
  elsewhere k w σ τ v h ne p =
      put_other (instr r k) v w σ ne ∙ p ∙ sym (put_other (instr r k) (ρ v) w τ (instr_other os r k (ρ v) (apart v h)))

  put_agree : (k : ℕ) (w : Word) (σ τ : Env) → ((v : Value) → UsableIn r ar k v → σ v ≡ τ (ρ v)) → (v : Value) → UsableIn r ar (suc k) v
      → put (instr r k) w σ v ≡ put (instr r k) w τ (ρ v)
  put_agree k w σ τ h (const i) us = elsewhere k w σ τ (const i) tt refl (h (const i) tt)
  put_agree k w σ τ h (bool b) us = elsewhere k w σ τ (bool b) tt refl (h (bool b) tt)
  put_agree k w σ τ h (undef ty) us = elsewhere k w σ τ (undef ty) tt refl (h (undef ty) tt)
  put_agree k w σ τ h no_value us = absurd us
  put_agree k w σ τ h (input q i) us = elsewhere k w σ τ (input q i) us refl (h (input q i) us)
  put_agree k w σ τ h (held q i) us = absurd us
  put_agree k w σ τ h (output i) us = absurd us
  put_agree k w σ τ h (instr q i) (is_r, lt) = rw (on_instr q i, is_r) (go (eqb i k) refl)
    where
      here : same_value (instr r i) (instr r k) ≡ eqb i k
      here = rw (eqb_self r)

      go : (o : Bool) → eqb i k ≡ o → put (instr r k) w σ (instr r i) ≡ put (instr r k) w τ (instr r i)
      go true e =
          let i_k : i ≡ k = eqb-true i k e in
          rw i_k (put_same (instr r k) w σ (rw (eqb_self r) (eqb_self k)) ∙ sym (put_same (instr r k) w τ (rw (eqb_self r) (eqb_self k))))
      go false e =
          let ne : i ≢ k = eqb-false i k e in
          put_other (instr r k) (instr r i) w σ (here ∙ e) ∙ h (instr r i) (refl, omega arith) ∙ ap τ (on_instr r i)
          ∙ sym (put_other (instr r k) (instr r i) w τ (here ∙ e))

  instr_agree : (k : ℕ) (i : Instr) (a s : RunState) → AllUsable r ar k i.reads → Agree ρ r ar k a s
      → Agree ρ r ar (suc k) (do_instr rule r k i a) (do_instr rule r k (rewrite_reads ρ i) s)
  unfolding do_instr
  instr_agree k i a s us ag =
      let q = reads_agree k a s ag i.reads us in
      let p = ag.events in
      let same_word : word32 (rule i.opcode (map a.env i.reads) a.events)
      ≡ word32 (rule i.opcode (map s.env (map ρ i.reads)) s.events) = cc in
      record { events = cc; reads = λ v u. rw same_word (put_agree k _ a.env s.env ag.reads v u) }

  block_agree : (k : ℕ) (is : List Instr) (a s : RunState) → BlockUsable r ar k is → Agree ρ r ar k a s
      → Agree ρ r ar (k + length is) (do_block rule r k is a) (do_block rule r k (map (rewrite_reads ρ) is) s)
  unfolding do_block
  block_agree k [] a s us ag = let z : k + 0 ≡ k = omega arith in rw z ag
  block_agree k (i ∷ is) a s (u, us) ag =
      let z : k + suc (length is) ≡ suc k + length is = omega arith in
      rw z (block_agree (suc k) is (do_instr rule r k i a) (do_instr rule r k (rewrite_reads ρ i) s) us (instr_agree k i a s u ag))

module _ (rule : Rule) (ρ : Resolver) (on_instr : (q k : ℕ) → ρ (instr q k) ≡ instr q k) (r ar : ℕ) where
  pub record BlocksDone (os : List NodeOutput) (test b n k : ℕ) (bs : List (List Instr)) (a s : RunState) : Type 0 where
    pub state : RunState
    pub runs_on : run_nodes rule test b (rewrite_nodes ρ os (blocks_from n r k bs)) s ≡ through state
    pub agree : Agree ρ r ar (after_blocks k bs) (do_blocks rule r k bs a) state

  pub blocks_agree : (os : List NodeOutput) (test b n k : ℕ) (bs : List (List Instr))
      → ((v : Value) → UsableIn r ar 0 v → owns_nodes (blocks_from n r k bs) (key os (ρ v)) ≡ false)
      → (a s : RunState) → BlocksUsable r ar k bs → Agree ρ r ar k a s → BlocksDone os test b n k bs a s
  unfolding run_nodes look_up_nodes do_blocks owns_nodes
  blocks_agree os test b n k [] apart a s us ag = record { state = s; runs_on = refl; agree = ag }
  blocks_agree os test b n k (x ∷ bs) apart a s (u, us) ag =
      let apart' : (v : Value) → UsableIn r ar 0 v → is_instr r (key os (ρ v)) ≡ false = λ v h. or_left (is_instr r (key os (ρ v)))
      (owns_nodes (blocks_from (suc n) r (k + length x) bs) (key os (ρ v))) (apart v h) in
      let rest : (v : Value) → UsableIn r ar 0 v → owns_nodes (blocks_from (suc n) r (k + length x) bs) (key os (ρ v)) ≡ false =
      λ v h. or_right
      (is_instr r (key os (ρ v))) (owns_nodes (blocks_from (suc n) r (k + length x) bs) (key os (ρ v))) (apart v h) in
      let y = blocks_agree os test b (suc n) (k + length x) bs rest (do_block rule r k x a)
      (do_block rule r k (map (rewrite_reads ρ) x) s) us
      (block_agree rule ρ on_instr r ar os apart' k x a s u ag) in
      record { state = y.state; runs_on = y.runs_on; agree = y.agree }

-- After its blocks the graph's run stands at its terminator, in a state that agrees.
pub record AtTerminator (W : World) (r : ℕ) (ρ : Resolver) (n : ℕ) (e : End) (h : List Event) (st : RunState) : Type 0 where
  pub graph : RunState
  pub agree : Agree ρ r (ar W r) (after_blocks 0 (region W.g r).blocks) graph st
  pub fewer : ℕ
  pub is_fewer : fewer < n
  pub ends : by_terminator (λ x vs h'. from_region W fewer x vs h') graph.env graph.events (region W.g r).terminator
      ≡ ends_with e h

module _ (W : World) (r : ℕ)
    (usable : BlocksUsable r (ar W r) 0 (region W.g r).blocks) where
  abbrev many : ℕ
  many = ar W r

  abbrev blocks : List (List Instr)
  blocks = (region W.g r).blocks

  -- the graph's run of the blocks, and the nested one
  begin : (ρ : Resolver) (os : List NodeOutput) (T : Tables) → Respects ρ os T → (s : RunState) (w : List Word) → Based W s
      → length w ≡ many → (ks : Nodes) → InputsAre ρ os r ks w s
      → Agree ρ r many 0 (enter W.base r w s.events) s
  begin ρ os T res s w bs lw ks gv = record { events = refl; reads = reads }
    where
      at_const : (v : Value) → is_constant v ≡ true → ρ v ≡ v → ((k : ℕ) → same_value v (input r k) ≡ false)
          → put_inputs (λ k. input r k) 0 w W.base v ≡ s.env (ρ v)
      at_const v c fixed ne = puts_other (λ k. input r k) v ne 0 w W.base ∙ sym (bs.based v c) ∙ ap s.env (sym fixed)

      reads : (v : Value) → UsableIn r many 0 v → put_inputs (λ k. input r k) 0 w W.base v ≡ s.env (ρ v)
      reads (const i) h = at_const (const i) refl (res.on_const i) (λ k. refl)
      reads (bool b) h = at_const (bool b) refl (res.on_bool b) (λ k. refl)
      reads (undef ty) h = at_const (undef ty) refl (res.on_undef ty) (λ k. refl)
      reads no_value h = absurd h
      reads (held q i) h = absurd h
      reads (output i) h = absurd h
      reads (instr q i) h = absurd (omega (arith, h.1))
      reads (input q i) h =
          let lt : i < length w = omega (arith, h.1, lw) in
          rw h.0 (puts_at (λ k. input r k) (input_numbered r) w i i 0 (omega arith) lt W.base ∙ sym (gv.reads i lt))

  apart : (ρ : Resolver) (os : List NodeOutput) (T : Tables) → Respects ρ os T → (s : RunState) (w : List Word) → length w ≡ many
      → (ks : Nodes)
      → InputsAre ρ os r ks w s → (v : Value) → UsableIn r many 0 v → owns_nodes ks (key os (ρ v)) ≡ false
  apart ρ os T res s w lw ks gv (const i) h = rw (res.on_const i) (nodes_none ks)
  apart ρ os T res s w lw ks gv (bool b) h = rw (res.on_bool b) (nodes_none ks)
  apart ρ os T res s w lw ks gv (undef ty) h = rw (res.on_undef ty) (nodes_none ks)
  apart ρ os T res s w lw ks gv no_value h = absurd h
  apart ρ os T res s w lw ks gv (held q i) h = absurd h
  apart ρ os T res s w lw ks gv (output i) h = absurd h
  apart ρ os T res s w lw ks gv (instr q i) h = absurd (omega (arith, h.1))
  apart ρ os T res s w lw ks gv (input q i) h = rw h.0 (gv.apart i (omega (arith, h.1, lw)))

  stands : (ρ : Resolver) (os : List NodeOutput) (T : Tables) → Respects ρ os T → (b n : ℕ) (s : RunState) (w : List Word) → Based W s
      → length w ≡ many
      → InputsAre ρ os r (blocks_of W.g r) w s → (e : End) (h : List Event) → from_region W n r w s.events ≡ ends_with e h
      → LeadsTo W (AtTerminator W r ρ n e h) e h (runs W b (rewrite_nodes ρ os (blocks_of W.g r)) s)
  unfolding run_from
  stands ρ os T res b zero s w bs lw gv e h gr = absurd (none_run W r w s.events e h gr)
  stands ρ os T res b (suc n) s w bs lw gv e h gr =
      let a : RunState = enter W.base r w s.events in
      let y = blocks_agree W.rule ρ res.on_instr r many os W.g.test_cost b (block_count (take r W.g.regions)) 0 blocks
      (apart ρ os T res s w lw (blocks_of W.g r) gv)
      a s usable (begin ρ os T res s w bs lw (blocks_of W.g r) gv) in
      rw y.runs_on (record {
        leads_to =
            record { graph = do_blocks W.rule r 0 blocks a; agree = y.agree; fewer = n; is_fewer = omega arith; ends = gr };
      })

  pub blocks_lead : (T : Tables) → Leads W r r (blocks_of W.g r) T (λ ρ os n e h st. AtTerminator W r ρ n e h st)
  blocks_lead T = record { leads = λ ρ os res b n le s w bs lw gv e h gr. stands ρ os T res b n s w bs lw gv e h gr }

  pub usable_reads : (ρ : Resolver) (k : ℕ) (a s : RunState) → Agree ρ r many k a s → (vs : List Value) → AllUsable r many k vs
      → map a.env vs ≡ read ρ s vs
  usable_reads ρ k a s ag [] h = refl
  usable_reads ρ k a s ag (v ∷ vs) (h, hs) = let p = ag.reads v h in let q = usable_reads ρ k a s ag vs hs in cc
