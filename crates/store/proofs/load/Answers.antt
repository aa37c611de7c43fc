use mathlib.Core.Path.{◌∙◌}
use Rattle.store.specs.laws.Store.{holds_counted, filled}
use Rattle.store.proofs.load.Goals as goal

pub copy_words-requires : goal.copy_words-requires
copy_words-requires c =
    let h = holds_counted c.args.bytes.now _ c.in_ok-w.ensures in
    (h.short, h.within)

pub returns : goal.returns
returns c =
    let e = c.in_ok-w.ensures in
    record {
      answer = e;
      words = c.copy_words.ensures ∙ filled _ _ _ (holds_counted c.args.bytes.now _ e);
    }
