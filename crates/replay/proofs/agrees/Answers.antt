use mathlib.Core.Path.{◌≡◌, sym, ◌∙◌}
use native.Mathlib.Omega.{arith}
use lib.Seq.{length-take-le}
use Rattle.vectors.proofs.Laws.{behind_within, parted}
use Rattle.replay.specs.Agrees.{kept_whole}
use Rattle.replay.proofs.agrees.Goals as goal

pub slice_bounds-rest-count : goal.slice_bounds-rest-count
slice_bounds-rest-count c = rw c.behind-at.ensures (behind_within _ _)

pub slice_bounds-rest-start : goal.slice_bounds-rest-start
slice_bounds-rest-start c =
    omega (arith, c.behind-at.ensures, behind_within 32 c.args.vector.now)

pub slice_bounds-decode-end : goal.slice_bounds-decode-end
slice_bounds-decode-end c =
    sym (length-take-le _ _ (parted _ c.behind-at.ensures c.behind-end.ensures).within)

pub slice_bounds-is_nested-count : goal.slice_bounds-is_nested-count
slice_bounds-is_nested-count c =
    (parted _ c.behind-at.ensures c.behind-end.ensures).within

pub slice_bounds-is_nested-start : goal.slice_bounds-is_nested-start
slice_bounds-is_nested-start c =
    omega (arith, (parted _ c.behind-at.ensures c.behind-end.ensures).within)

pub returns-then-of_sheet : goal.returns-then-of_sheet
returns-then-of_sheet c =
    let v = c.args.vector.now in
    let p = parted v c.behind-at.ensures c.behind-end.ensures in
    let kind = sym c.of_sheet.ensures ∙ c.if-of_sheet.true in
    kept_whole v (omega arith) (c.decode-n.ensures.bytes ∙ p.store) p.answer kind c.is_nested.ensures

pub slice_bounds-is_shown-count : goal.slice_bounds-is_shown-count
slice_bounds-is_shown-count c =
    (parted _ c.behind-at.ensures c.behind-end.ensures).within

pub slice_bounds-is_shown-start : goal.slice_bounds-is_shown-start
slice_bounds-is_shown-start c =
    omega (arith, (parted _ c.behind-at.ensures c.behind-end.ensures).within)

pub returns-else-of_sheet : goal.returns-else-of_sheet
returns-else-of_sheet c =
    let v = c.args.vector.now in
    let p = parted v c.behind-at.ensures c.behind-end.ensures in
    let kind = sym c.of_sheet.ensures ∙ c.if-of_sheet.false in
    kept_whole v (omega arith) (c.decode-n.ensures.bytes ∙ p.store) p.answer kind c.is_shown.ensures
