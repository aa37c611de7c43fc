-- Which kind of rewriting a word says, and back.
use Rattle.std.specs.Prelude.{ℕ, eqb}
use Rattle.state_nodes.specs.declared.rewrites.RewriteKind.{RewriteKind}
use Rattle.state_nodes.specs.declared.rewrites.RewriteKind.TheVariants.{NotRewritten, ReplaceWith, RenumberOrReplaceWith, Unknown}
use Rattle.meaning.specs.Lists.{pick}
use Rattle.state_words.specs.Rows.{entry_none, entry_replace, entry_renumber}

abbrev pub rewrite_kind_of : ℕ → RewriteKind
rewrite_kind_of n =
    pick (eqb n entry_none) NotRewritten
    (pick (eqb n entry_replace) ReplaceWith
    (pick (eqb n entry_renumber) RenumberOrReplaceWith (Unknown n)))

abbrev pub rewrite_kind_word : RewriteKind → ℕ
rewrite_kind_word NotRewritten = entry_none
rewrite_kind_word ReplaceWith = entry_replace
rewrite_kind_word RenumberOrReplaceWith = entry_renumber
rewrite_kind_word (Unknown n) = n
