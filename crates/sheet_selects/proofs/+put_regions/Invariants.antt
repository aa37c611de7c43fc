-- `put_regions` meets its contract. The measure is the handle: the cases after the first have an earlier one.
use Rattle.sheet_selects.proofs.+put_regions.Given as goal

abbrev pub decreases-put_regions : goal.decreases-put_regions
decreases-put_regions l = l.list.0
