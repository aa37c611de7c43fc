-- When nesting is done its own look-up obeys its rewrites: chains end, so one step more changes nothing.
use Rattle.std.proofs.Math.Option.{none}
use Rattle.std.specs.Prelude.{List, ◌≡◌, refl, suc, ℕ, length}
use Rattle.std.proofs.Common.{◌∙◌, ap, sym, arith}
use Rattle.meaning.specs.Graph.{bool, const, input, instr, output, undef}
use Rattle.nesting.specs.lookups.ChainEnds.{ChainsEnd}
use Rattle.nesting.proofs.lookups.ChainEnds.{rewrite_enough}
use Rattle.nesting.proofs.lookups.ChainSteps.{chain_steps, next_value, stops_rewrite}
use Rattle.nesting.proofs.laws.HeldStays.{rewrite_held}
use Rattle.nesting.specs.Nesting.{rewrites_of, RewriteEntry, unmarked}
use Rattle.nesting.specs.lookups.Rewriting.{rewrite_last}
use Rattle.follows.specs.simulation.Tables.{Respects, Tables}
use Rattle.meaning.specs.facts.Elements.{extends_refl}

-- what has no rewrites stays as it is
pub unrewritten_stays : (es : List RewriteEntry) (r k : ℕ) → rewrites_of es r ≡ none → rewrite_last es (input r k) ≡ input r k
unrewritten_stays es r k un = ap unmarked (stops_rewrite es (input r k) (rw un))

pub final_respects : (T : Tables) → ((r : ℕ) → ChainsEnd T.rewrites r) → Respects (rewrite_last T.rewrites) T.outputs T
final_respects T h =
    let es = T.rewrites in
    record {
      on_const = λ i. ap unmarked (stops_rewrite es (const i) refl);
      on_held = λ r k. ap unmarked (rewrite_held es r k);
      on_instr = λ r k. ap unmarked (stops_rewrite es (instr r k) refl);
      on_output = λ k. ap unmarked (stops_rewrite es (output k) refl);
      on_bool = λ b. ap unmarked (stops_rewrite es (bool b) refl);
      on_undef = λ ty. ap unmarked (stops_rewrite es (undef ty) refl);
      steps = λ v. ap unmarked (sym (rewrite_enough es h (next_value es v) (length es) (omega arith))
          ∙ chain_steps es (length es) (next_value es v)
          ∙ sym (chain_steps es (suc (length es)) v) ∙ rewrite_enough es h v (suc (length es)) (omega arith));
      outputs = extends_refl T.outputs;
    }
