-- A run of rewritten nodes changes the environment only at variables that the nodes own.
use Rattle.std.specs.Prelude.{Bool, false, true, ◌≡◌, eqb, leb, get_or}
use mathlib.Core.List.{List, [], ◌∷◌, map, map-map}
use Rattle.std.proofs.Common.{◌∙◌, ap, sym, arith, eqb-true}
use Rattle.std.proofs.Math.Path.{refl}
use Prim.Native.Nat.{◌+◌, suc, zero, ℕ}
use Rattle.meaning.specs.Runs.{LoopNode, Cases, Node, Nodes, ◌▸◌, block, case, exit, loop, select, ∅, ⟨⟩, Ran, and_then, assign_inputs}
use Rattle.meaning.specs.Runs.{assign_outputs, case_count, ended, no_end, note_over, once_more, pay, put_outputs, run_case, run_node}
use Rattle.meaning.specs.Runs.{run_nodes, tested, through, turns, Env, Rule, RunState, Word, do_block, do_instr, mark, place_taken, put}
use Rattle.meaning.specs.Runs.{put_inputs, word}
use Rattle.meaning.specs.Graph.{Instr, Value, input, instr, output, same_value, undef}
use Rattle.meaning.specs.Lists.{filter, pick}
use Rattle.meaning.specs.facts.Tests.{clash, eqb_less, eqb_self, false_if, or_left, or_right}
use Rattle.nesting.specs.Nesting.{case_outputs, output_decls, NodeOutput, look_up_node}
use Rattle.nesting.specs.lookups.Rewriting.{rewrite_loop, rewrite_cases_of, rewrite_node, rewrite_nodes, rewrite_reads}
use Rattle.follows.specs.simulation.Values.{same_value→eq}
use Rattle.follows.specs.simulation.Key.{OutputAt, is_input_of, is_instr, is_node, key, key_output, owns, owns_cases, owns_nodes}

-- ---- one variable is put
pub put_other : (v u : Value) (w : Word) (σ : Env) → same_value u v ≡ false → put v w σ u ≡ σ u
unfolding put
put_other v u w σ h = rw h

pub put_same : (v : Value) (w : Word) (σ : Env) → same_value v v ≡ true → put v w σ v ≡ w
unfolding put
put_same v w σ h = rw h

pub puts_other : (v : ℕ → Value) (u : Value) → ((k : ℕ) → same_value u (v k) ≡ false) → (k : ℕ) (ws : List Word) (σ : Env)
    → put_inputs v k ws σ u ≡ σ u
unfolding put_inputs
puts_other v u h k [] σ = refl
puts_other v u h k (w ∷ ws) σ = puts_other v u h (suc k) ws (put (v k) w σ) ∙ put_other (v k) u w σ (h k)

-- ---- a value of another key is another value
pub instr_other : (os : List NodeOutput) (r k : ℕ) (u : Value) → is_instr r (key os u) ≡ false → same_value u (instr r k) ≡ false
instr_other os r k u h = false_if _ λ p. let e = same_value→eq u (instr r k) p in let z : eqb r r ≡ false = rw e at h in
    clash (cc (eqb_self r))

pub input_other : (os : List NodeOutput) (r k : ℕ) (u : Value) → is_input_of r (key os u) ≡ false → same_value u (input r k) ≡ false
input_other os r k u h = false_if _ λ p. let e = same_value→eq u (input r k) p in let z : eqb r r ≡ false = rw e at h in
    clash (cc (eqb_self r))

output_other : {n : ℕ} {os : List NodeOutput} {k : ℕ} {o : NodeOutput} → OutputAt n os k o → (u : Value) → is_node n (key os u) ≡ false
    → same_value u (output k) ≡ false
output_other {n} {k} at_k u h = false_if _ λ p.
    let e = same_value→eq u (output k) p in
    let z : eqb n n ≡ false = rw (e, key_output at_k) at h in
    clash (cc (eqb_self n))

-- ---- the outputs of a node are put
-- the outputs from number k on
outputs_others : (n k : ℕ) (os : List NodeOutput) (u : Value)
    → ((i : ℕ) (o : NodeOutput) → OutputAt n os i o → same_value u (output (k + i)) ≡ false)
    → (ws : List Word) (σ : Env) → put_outputs (output_decls n k os) ws σ u ≡ σ u
unfolding put_outputs
outputs_others n k [] u h ws σ = refl
outputs_others n k (o ∷ os) u h ws σ = go (λ x. outputs_others n (suc k) os u x) (eqb n o.node) refl ws σ
  where
    Others : Type 0
    Others = ((i : ℕ) (x : NodeOutput) → OutputAt n os i x → same_value u (output (suc k + i)) ≡ false)
        → (ws : List Word) (σ : Env) → put_outputs (output_decls n (suc k) os) ws σ u ≡ σ u

    rest : Others → (ws : List Word) (σ : Env) → put_outputs (output_decls n (suc k) os) ws σ u ≡ σ u
    rest ih = ih λ i x at_i.
        let z : suc k + i ≡ k + suc i = omega arith in
        rw z (h (suc i) x (record { there = at_i.there; node = at_i.node }))

    go : Others → (b : Bool) → eqb n o.node ≡ b → (ws : List Word) (σ : Env)
        → put_outputs (pick b (record { number = k; type = o.type } ∷ output_decls n (suc k) os) (output_decls n (suc k) os)) ws σ u ≡ σ u
    go ih false p ws σ = rest ih ws σ
    go ih true p [] σ = refl
    go ih true p (w ∷ ws) σ =
        let e : n ≡ o.node = eqb-true n o.node p in
        let z : k + 0 ≡ k = omega arith in
        rest ih ws _ ∙ put_other (output k) u w σ (rw z at (h 0 o (record { there = refl; node = sym e })))

pub outputs_kept : (n : ℕ) (os : List NodeOutput) (u : Value) → is_node n (key os u) ≡ false → (vs : List Value) (s : RunState)
    → (assign_outputs (output_decls n 0 os) vs s).env u ≡ s.env u
outputs_kept n os u h vs s =
    outputs_others n 0 os u (λ i o at_i. let z : 0 + i ≡ i = omega arith in rw z (output_other at_i u h)) (map s.env vs) s.env

abbrev outputs_of : ℕ → List NodeOutput → List NodeOutput
outputs_of n os = filter (λ o. eqb n o.node) os

-- output k + i becomes what the case at place j gives for it
outputs_at : (n k j : ℕ) (os : List NodeOutput) (f : Value → Word) (i : ℕ) (o : NodeOutput) → OutputAt n os i o → (σ : Env)
    → put_outputs (output_decls n k os) (map f (case_outputs n j os)) σ (output (k + i)) ≡ f (get_or o.values j (undef 0))
unfolding put_outputs
outputs_at n k j [] f i o at_i σ = absurd (let z = at_i.there in clash (cc))
outputs_at n k j (x ∷ os) f i o at_i σ = go (λ i at_i σ. outputs_at n (suc k) j os f i o at_i σ) (eqb n x.node) refl i at_i σ
  where
    IH : Type 0
    IH = (i : ℕ) → OutputAt n os i o → (σ : Env) → put_outputs (output_decls n (suc k) os) (map f (case_outputs n j os)) σ
        (output (suc k + i)) ≡ f
        (get_or o.values j (undef 0))

    number_of : (i : ℕ) → k + suc i ≡ suc k + i
    number_of i = omega arith

    go : IH → (b : Bool) → eqb n x.node ≡ b → (i : ℕ) → OutputAt n (x ∷ os) i o → (σ : Env)
        → put_outputs (pick b (record { number = k; type = x.type } ∷ output_decls n (suc k) os) (output_decls n (suc k) os))
        (map f (map (λ o. get_or o.values j (undef 0)) (pick b (x ∷ outputs_of n os) (outputs_of n os)))) σ (output (k + i))
        ≡ f (get_or o.values j (undef 0))
    go later false p zero at_i σ =
        let e : x ≡ o = let y = at_i.there in cc in
        let z : eqb n x.node ≡ true = rw (ap (λ y. y.node) e ∙ at_i.node) (eqb_self n) in absurd (clash (cc))
    go later false p (suc i) at_i σ = rw (number_of i) (later i (record { there = at_i.there; node = at_i.node }) σ)
    go later true p (suc i) at_i σ = rw (number_of i) (later i (record { there = at_i.there; node = at_i.node }) _)
    go later true p zero at_i σ =
        let e : x ≡ o = let y = at_i.there in cc in
        let z : k + 0 ≡ k = omega arith in
        rw (z, ← e) (outputs_others n (suc k) os (output k) (λ i y at_y. eqb_less k (suc k + i) (omega arith)) _ _
        ∙ put_same (output k) _ σ (eqb_self k))

pub output_read : (ρ : Value → Value) (os : List NodeOutput) (n j : ℕ) (s : RunState) (k : ℕ) (o : NodeOutput) → OutputAt n os k o
    → (assign_outputs (output_decls n 0 os) (map ρ (case_outputs n j os)) s).env (output k) ≡ s.env (ρ (get_or o.values j (undef 0)))
output_read ρ os n j s k o at_k =
    let z : 0 + k ≡ k = omega arith in
    rw (map-map s.env ρ (case_outputs n j os), ← z) (outputs_at n 0 j os (λ v. s.env (ρ v)) k o at_k s.env)

-- ---- a run keeps what it does not own
abbrev pub KeptRan : Value → RunState → Ran → Type 0
KeptRan u s (through s') = s'.env u ≡ s.env u
KeptRan u s (ended e s') = Unit
KeptRan u s (no_end why) = Unit

pub record Kept (u : Value) (s : RunState) (r : Ran) : Type 0 where
  pub kept : KeptRan u s r

trans_kept : {u : Value} (s s' : RunState) → s'.env u ≡ s.env u → (r : Ran) → Kept u s' r → Kept u s r
trans_kept s s' p (through s'') x = record { kept = x.kept ∙ p }
trans_kept s s' p (ended e s'') x = record { kept = tt }
trans_kept s s' p (no_end why) x = record { kept = tt }

then_kept : {u : Value} {s : RunState} (r : Ran) (f : RunState → Ran) → Kept u s r → ((s' : RunState) → Kept u s' (f s'))
    → Kept u s (and_then r f)
then_kept {s} (through s') f p q = trans_kept s s' p.kept (f s') (q s')
then_kept (ended e s') f p q = record { kept = tt }
then_kept (no_end why) f p q = record { kept = tt }

tested_kept : {u : Value} {s : RunState} (w : Word) (f : ℕ → Ran) → ((x : ℕ) → Kept u s (f x)) → Kept u s (tested w f)
tested_kept (word x) f p = p x
tested_kept mark f p = record { kept = tt }

pub inputs_kept : (os : List NodeOutput) (r : ℕ) (u : Value) → is_input_of r (key os u) ≡ false → (us : List Value) (s : RunState)
    → (assign_inputs r us s).env u ≡ s.env u
inputs_kept os r u h us s = puts_other (λ k. input r k) u (λ k. input_other os r k u h) 0 (map s.env us) s.env

module _ (rule : Rule) (test : ℕ) (ρ : Value → Value) (os : List NodeOutput) (u : Value) where
  block_kept : (r : ℕ) → is_instr r (key os u) ≡ false → (k : ℕ) (is : List Instr) (s : RunState)
      → (do_block rule r k is s).env u ≡ s.env u
  unfolding do_block do_instr
  block_kept r h k [] s = refl
  block_kept r h k (i ∷ is) s =
      block_kept r h (suc k) is (do_instr rule r k i s) ∙ put_other (instr r k) u _ s.env (instr_other os r k u h)

  turns_kept : (x : LoopNode) (run : RunState → Ran) → ((s : RunState) → Kept u s (run s)) → is_input_of x.body (key os u) ≡ false
      → (b made : ℕ) (s : RunState) → Kept u s (turns rule test b made x run s)
  unfolding turns
  turns_kept x run p h zero made s = record { kept = tt }
  turns_kept x run p h (suc b) made s =
      let ih : (s'' : RunState) → Kept u s'' (turns rule test b (suc made) x run s'') = λ s''. turns_kept x run p h b (suc made) s'' in
      let s₁ : RunState = note_over (leb x.limit made) s in
      trans_kept s s₁ refl _ (then_kept (run s₁) _ (p s₁) (λ s'. tested_kept (s'.env x.repeat) _ (turn ih s')))
    where
      turn : ((s'' : RunState) → Kept u s'' (turns rule test b (suc made) x run s'')) → (s' : RunState) (w : ℕ)
          → Kept u s' (once_more (λ s''. turns rule test b (suc made) x run (assign_inputs x.body x.outputs s'')) x.outputs w
          (pay test s'))
      turn ih s' zero = record { kept = refl }
      turn ih s' (suc w) =
          trans_kept s' (assign_inputs x.body x.outputs (pay test s')) (inputs_kept os x.body u h x.outputs (pay test s')) _
          (ih _)

  mutual
    unfolding run_node owns look_up_node

    node_kept : (x : Node) → owns x (key os u) ≡ false → (b : ℕ) (s : RunState) → Kept u s (run_node rule test b (rewrite_node ρ os x) s)
    node_kept (block n r k is) h b s = record { kept = block_kept r h k (map (rewrite_reads ρ) is) s }
    node_kept (select x cs) h b s =
        let n = x.number in
        tested_kept (s.env (ρ x.scrutinee)) _ λ w. trans_kept s (pay test s) refl _
        (case_kept cs (or_right (is_node n (key os u)) (owns_cases cs (key os u)) h) b
        (place_taken x.kind w (case_count (rewrite_cases_of ρ os cs n 0))) n 0
        (or_left (is_node n (key os u)) (owns_cases cs (key os u)) h) (pay test s))
    node_kept (loop x ks) h b s =
        let r = x.body in
        let k : is_input_of r (key os u) ≡ false = or_left (is_input_of r (key os u)) (owns_nodes ks (key os u)) h in
        let s₁ : RunState = assign_inputs r (map ρ x.initial_inputs) s in
        trans_kept s s₁ (inputs_kept os r u k (map ρ x.initial_inputs) s) _
        (turns_kept (rewrite_loop ρ os x) (λ s'. run_nodes rule test b (rewrite_nodes ρ os ks) s')
        (λ s'. nodes_kept ks (or_right (is_input_of r (key os u)) (owns_nodes ks (key os u)) h) b s') k b 0 s₁)
    node_kept (exit n op vs) h b s = record { kept = tt }

    nodes_kept : (ks : Nodes) → owns_nodes ks (key os u) ≡ false → (b : ℕ) (s : RunState)
        → Kept u s (run_nodes rule test b (rewrite_nodes ρ os ks) s)
    nodes_kept ⟨⟩ h b s = record { kept = refl }
    nodes_kept (x ▸ ks) h b s =
        then_kept (run_node rule test b (rewrite_node ρ os x) s) _
        (node_kept x (or_left (owns x (key os u)) (owns_nodes ks (key os u)) h) b s)
        (λ s'. nodes_kept ks (or_right (owns x (key os u)) (owns_nodes ks (key os u)) h) b s')

    case_kept : (cs : Cases) → owns_cases cs (key os u) ≡ false → (b j n i : ℕ) → is_node n (key os u) ≡ false → (s : RunState)
        → Kept u s (run_case rule test b (rewrite_cases_of ρ os cs n i) j (output_decls n 0 os) s)
    case_kept ∅ h b j n i g s = record { kept = tt }
    case_kept (case c ks cs) h b zero n i g s =
        then_kept (run_nodes rule test b (rewrite_nodes ρ os ks) s) _
        (nodes_kept ks (or_left (owns_nodes ks (key os u)) (owns_cases cs (key os u)) h) b s)
        (λ s'. record { kept = outputs_kept n os u g (map ρ (case_outputs n i os)) s' })
    case_kept (case c ks cs) h b (suc j) n i g s =
        case_kept cs (or_right (owns_nodes ks (key os u)) (owns_cases cs (key os u)) h) b j n (suc i) g s

  pub frame : (ks : Nodes) (b : ℕ) (s s' : RunState) → run_nodes rule test b (rewrite_nodes ρ os ks) s ≡ through s'
      → owns_nodes ks (key os u) ≡ false → s'.env u ≡ s.env u
  frame ks b s s' p h = (rw p at (nodes_kept ks h b s)).kept
