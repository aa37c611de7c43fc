-- A look_up leaves a marked input as it is.
use Rattle.std.specs.Prelude.{◌≡◌, refl, List, ℕ, zero, suc}
use Rattle.meaning.specs.Graph.{held}
use Rattle.nesting.specs.Nesting.{RewriteEntry, chain_fuel, look_up_chain, look_up}
use Rattle.nesting.specs.lookups.Rewriting.{rewrite}

chain_held : (fuel : ℕ) (es : List RewriteEntry) (r k : ℕ) → (look_up_chain fuel es (held r k)).value ≡ held r k
unfolding look_up_chain
chain_held zero es r k = refl
chain_held (suc fuel) es r k = refl

pub rewrite_held : (es : List RewriteEntry) (r k : ℕ) → rewrite es (held r k) ≡ held r k
unfolding look_up
rewrite_held es r k = chain_held (chain_fuel es) es r k
