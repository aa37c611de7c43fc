-- What a computation of nesting opens. The definitions are shut where they are used; a proof that is to compute them says
-- `unfolding nesting_computes`.
use Rattle.meaning.specs.Graph.{Graph}
use Rattle.format.specs.Store.{Answer}
use Rattle.format.specs.References.{return_types}
use Rattle.nesting.specs.Nesting.{exit_targets, Nested, define_region, define_node, define_merge, define_output, look_up_chain}
use Rattle.nesting.specs.Nesting.{rewrite_values, materialize_lazy_cond, append_maybe_claimed_region, rewrite_cases, case_regions}
use Rattle.nesting.specs.Nesting.{define_select, emit_inputs, emit, select_if, replace_inputs, structurize_select, visit}
use Rattle.nesting.specs.Nesting.{incoming_edge_counts, structurize_loop, target_regions, split_out_matching, resolve_deferred}
use Rattle.nesting.specs.Nesting.{structurize_region, try_claim_edge_bundle, conclude, structurize_func_by, structurize_func}
use Rattle.nesting.specs.Nesting.{look_up_nodes, look_up_piece, look_up}

unfoldable pub nesting_computes : Graph → Answer Nested
unfolding exit_targets return_types define_region define_node define_merge define_output look_up_chain look_up rewrite_values
    materialize_lazy_cond append_maybe_claimed_region rewrite_cases case_regions define_select emit_inputs emit select_if
    replace_inputs structurize_select visit incoming_edge_counts structurize_loop target_regions split_out_matching
    resolve_deferred structurize_region try_claim_edge_bundle look_up_nodes look_up_piece conclude structurize_func_by
    structurize_func
nesting_computes g = structurize_func g
