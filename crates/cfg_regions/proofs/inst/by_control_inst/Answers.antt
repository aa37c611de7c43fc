use borrow.Author.Rules.{rules}
use Rattle.cfg_regions.specs.laws.ByInstLaws.{inst_path}
use Rattle.cfg_regions.proofs.inst.by_control_inst.Goals as goal

pub returns : goal.returns
returns c = λ g st. inst_path st (c.add_blocks.ensures g)
    c.put_set_length.ensures (c.by_terminator.ensures g)
