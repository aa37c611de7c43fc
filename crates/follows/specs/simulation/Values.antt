-- Values that have the same code are the same.
use Rattle.std.specs.Prelude.{◌&&◌, false, true, List, [], ◌∷◌, ◌≡◌, refl, suc, zero, ℕ, eqb}
use Rattle.std.proofs.Common.{eqb-true}
use Rattle.meaning.specs.Graph.{Value, bool, code_of, const, held, input, instr, output, same_value, undef, no_value, same_values}
use Rattle.meaning.specs.facts.Tests.{and_both}

decode : ℕ → ℕ → ℕ → Value
decode zero r k = const k
decode (suc zero) r k = input r k
decode (suc (suc zero)) r k = instr r k
decode (suc (suc (suc zero))) r k = output k
decode (suc (suc (suc (suc zero)))) r zero = bool false
decode (suc (suc (suc (suc zero)))) r (suc k) = bool true
decode (suc (suc (suc (suc (suc zero))))) r k = undef k
decode (suc (suc (suc (suc (suc (suc zero)))))) r k = held r k
decode (suc (suc (suc (suc (suc (suc (suc n))))))) r k = no_value

decode_code : (v : Value) → decode (code_of v).kind (code_of v).region (code_of v).index ≡ v
unfolding decode
decode_code (const i) = refl
decode_code (input r k) = refl
decode_code (held r k) = refl
decode_code (instr r k) = refl
decode_code (output k) = refl
decode_code (bool true) = refl
decode_code (bool false) = refl
decode_code (undef ty) = refl
decode_code no_value = refl

pub same_value→eq : (v w : Value) → same_value v w ≡ true → v ≡ w
same_value→eq v w h =
    let x = and_both (eqb (code_of v).kind (code_of w).kind)
    (eqb (code_of v).region (code_of w).region && eqb (code_of v).index (code_of w).index) h in
    let y = and_both (eqb (code_of v).region (code_of w).region) (eqb (code_of v).index (code_of w).index) x.1 in
    let a : (code_of v).kind ≡ (code_of w).kind = eqb-true (code_of v).kind (code_of w).kind x.0 in
    let b : (code_of v).region ≡ (code_of w).region = eqb-true (code_of v).region (code_of w).region y.0 in
    let c : (code_of v).index ≡ (code_of w).index = eqb-true (code_of v).index (code_of w).index y.1 in
    cc (decode_code v, decode_code w)

pub same_values→eq : (vs ws : List Value) → same_values vs ws ≡ true → vs ≡ ws
same_values→eq [] [] h = refl
same_values→eq [] (w ∷ ws) h = cc
same_values→eq (v ∷ vs) [] h = cc
same_values→eq (v ∷ vs) (w ∷ ws) h =
    let x = and_both (same_value v w) (same_values vs ws) h in
    let e = same_value→eq v w x.0 in let es = same_values→eq vs ws x.1 in cc
