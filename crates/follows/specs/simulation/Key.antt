-- Keys: whose variable a value is, as a table of outputs has it, and which keys a node owns.
use Rattle.std.specs.Prelude.{Bool, ◌||◌, false, true, List, ◌≡◌, refl, ℕ, eqb}
use Rattle.std.proofs.Math.Bool.{or_assoc}
use Rattle.std.proofs.Math.Option.{Option, none, some}
use Rattle.std.proofs.Common.{◌∙◌, ap, sym, eqb-true}
use Rattle.meaning.specs.Runs.{Cases, Node, Nodes, ◌▸◌, block, case, exit, loop, select, ∅, ⟨⟩}
use Rattle.meaning.specs.Graph.{Value, bool, const, held, input, instr, output, same_value, undef, no_value}
use Rattle.meaning.specs.facts.Tests.{clash}
use Rattle.nesting.specs.Nesting.{join, NodeOutput}
use Rattle.meaning.specs.facts.Elements.{nth}

-- A variable of a run is an instruction's output, a node's output, or a loop's body input.
pub data Key : Type 0 where
  of_none : Key
  of_instr of_node of_input : ℕ → Key

abbrev pub key_at : Option NodeOutput → Key
key_at none = of_none
key_at (some x) = of_node x.node

abbrev pub key : List NodeOutput → Value → Key
key os (instr r k) = of_instr r
key os (held r k) = of_input r
key os (output o) = key_at (nth os o)
key os (const i) = of_none
key os (input r k) = of_input r
key os (bool b) = of_none
key os (undef ty) = of_none
key os no_value = of_none

-- Output number k is this output, and it is of node n.
pub record OutputAt (n : ℕ) (os : List NodeOutput) (k : ℕ) (o : NodeOutput) : Type 0 where
  pub there : nth os k ≡ some o
  pub node : o.node ≡ n

pub key_output : {n : ℕ} {os : List NodeOutput} {k : ℕ} {o : NodeOutput} → OutputAt n os k o → key os (output k) ≡ of_node n
key_output h = ap key_at h.there ∙ ap of_node h.node

-- ---- what is constant
abbrev pub is_constant : Value → Bool
is_constant (const i) = true
is_constant (bool b) = true
is_constant (undef ty) = true
is_constant no_value = false
is_constant (input r k) = false
is_constant (held r k) = false
is_constant (instr r k) = false
is_constant (output o) = false

pub constant_by : (P : Value → Type 0) → ((i : ℕ) → P (const i)) → ((b : Bool) → P (bool b)) → ((ty : ℕ) → P (undef ty)) → (v : Value)
    → is_constant v ≡ true → P v
constant_by P c b u (const i) h = c i
constant_by P c b u (bool x) h = b x
constant_by P c b u (undef ty) h = u ty
constant_by P c b u no_value h = absurd (clash (cc))
constant_by P c b u (input q k) h = absurd (clash (cc))
constant_by P c b u (held q k) h = absurd (clash (cc))
constant_by P c b u (instr q k) h = absurd (clash (cc))
constant_by P c b u (output o) h = absurd (clash (cc))

pub key_constant : (os : List NodeOutput) (v : Value) → is_constant v ≡ true → key os v ≡ of_none
key_constant os v h = constant_by (λ u. key os u ≡ of_none) (λ i. refl) (λ b. refl) (λ ty. refl) v h

pub constant_not_input : (x : ℕ) (v : Value) → is_constant v ≡ true → (k : ℕ) → same_value v (input x k) ≡ false
constant_not_input x v h k = constant_by (λ u. same_value u (input x k) ≡ false) (λ i. refl) (λ b. refl) (λ ty. refl) v h

-- ---- one key
abbrev pub is_instr : ℕ → Key → Bool
is_instr r of_none = false
is_instr r (of_instr q) = eqb q r
is_instr r (of_node n) = false
is_instr r (of_input q) = false

abbrev pub is_node : ℕ → Key → Bool
is_node n of_none = false
is_node n (of_instr q) = false
is_node n (of_node m) = eqb m n
is_node n (of_input q) = false

abbrev pub is_input_of : ℕ → Key → Bool
is_input_of r of_none = false
is_input_of r (of_instr q) = false
is_input_of r (of_node n) = false
is_input_of r (of_input q) = eqb q r

pub instr_key : (r : ℕ) (κ : Key) → is_instr r κ ≡ true → κ ≡ of_instr r
instr_key r of_none p = absurd (clash (cc))
instr_key r (of_instr q) p = ap of_instr (eqb-true q r p)
instr_key r (of_node n) p = absurd (clash (cc))
instr_key r (of_input q) p = absurd (clash (cc))

pub node_key : (n : ℕ) (κ : Key) → is_node n κ ≡ true → κ ≡ of_node n
node_key n of_none p = absurd (clash (cc))
node_key n (of_instr q) p = absurd (clash (cc))
node_key n (of_node q) p = ap of_node (eqb-true q n p)
node_key n (of_input q) p = absurd (clash (cc))

pub input_key : (r : ℕ) (κ : Key) → is_input_of r κ ≡ true → κ ≡ of_input r
input_key r of_none p = absurd (clash (cc))
input_key r (of_instr q) p = absurd (clash (cc))
input_key r (of_node n) p = absurd (clash (cc))
input_key r (of_input q) p = ap of_input (eqb-true q r p)

-- ---- what a node owns: its run changes nothing else
unfoldable mutual
  pub owns : Node → Key → Bool
  owns (block n r k is) κ = is_instr r κ
  owns (select x cs) κ = is_node x.number κ || owns_cases cs κ
  owns (loop x ks) κ = is_input_of x.body κ || owns_nodes ks κ
  owns (exit n op vs) κ = false

  pub owns_nodes : Nodes → Key → Bool
  owns_nodes ⟨⟩ κ = false
  owns_nodes (x ▸ ks) κ = owns x κ || owns_nodes ks κ

  pub owns_cases : Cases → Key → Bool
  owns_cases ∅ κ = false
  owns_cases (case c ks cs) κ = owns_nodes ks κ || owns_cases cs κ

mutual
  unfolding owns

  node_none : (x : Node) → owns x of_none ≡ false
  node_none (block n r k is) = refl
  node_none (select x cs) = cases_none cs
  node_none (loop x ks) = nodes_none ks
  node_none (exit n op vs) = refl

  pub nodes_none : (ks : Nodes) → owns_nodes ks of_none ≡ false
  nodes_none ⟨⟩ = refl
  nodes_none (x ▸ ks) = rw (node_none x) (nodes_none ks)

  cases_none : (cs : Cases) → owns_cases cs of_none ≡ false
  cases_none ∅ = refl
  cases_none (case c ks cs) = rw (nodes_none ks) (cases_none cs)

pub owns_join : (a b : Nodes) (κ : Key) → owns_nodes (join a b) κ ≡ (owns_nodes a κ || owns_nodes b κ)
unfolding owns_nodes
owns_join ⟨⟩ b κ = refl
owns_join (x ▸ a) b κ = rw (owns_join a b κ) (sym (or_assoc (owns x κ) (owns_nodes a κ) (owns_nodes b κ)))
