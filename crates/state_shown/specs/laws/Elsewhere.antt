-- Stores into any other section, or into other words of the head, leave all that the tables show.
use Rattle.std.specs.Prelude.{◌≡◌, refl, List, ℕ, ◌<◌, length, get_or}
use Rattle.std.proofs.Common.{ap, ◌∙◌, arith}
use Rattle.nesting.specs.Nesting.{NestState}
use Rattle.state_words.specs.Sections as sections
use Rattle.state_words.specs.Sections.{Section, number, start, size, section, word, stored, head, rewrites, outputs}
use Rattle.state_words.specs.laws.Apart.{stored_length, section_other}
use Rattle.state_shown.specs.Tables.{ShowsTables}
use Rattle.state_words.specs.Rows.{attempts_at, merges_at, nodes_at, outputs_at, regions_at, twice_at, cells_at, cases_at}

-- The tables have the same words. Of the head they have the first seven, but for the total of cells.
pub record SameTables (w w' : List ℕ) : Type 0 where
  pub words : length w' ≡ length w
  pub same_rewrites : section w' rewrites ≡ section w rewrites
  pub same_outputs : section w' outputs ≡ section w outputs
  pub totals : (q : ℕ) → q < cases_at → (q ≡ cells_at → ⊥) → word w' head q ≡ word w head q

pub tables_stay : {w w' : List ℕ} {s : NestState} → SameTables w w' → ShowsTables w s → ShowsTables w' s
tables_stay g t =
    record {
      size = rw g.words t.size;
      region_total = g.totals regions_at (omega arith) (omega arith) ∙ t.region_total;
      node_total = g.totals nodes_at (omega arith) (omega arith) ∙ t.node_total;
      merge_total = g.totals merges_at (omega arith) (omega arith) ∙ t.merge_total;
      output_total = g.totals outputs_at (omega arith) (omega arith) ∙ t.output_total;
      attempts = g.totals attempts_at (omega arith) (omega arith) ∙ t.attempts;
      twice = g.totals twice_at (omega arith) (omega arith) ∙ t.twice;
      few_regions = t.few_regions;
      few_nodes = t.few_nodes;
      few_merges = t.few_merges;
      few_outputs = t.few_outputs;
      rewritten = rw g.same_rewrites t.rewritten;
      outputs_shown = rw g.same_outputs t.outputs_shown;
    }

-- Which sections are none of theirs: of a section by its name, `omega arith` proves it.
pub record Elsewhere (k : Section) : Type 0 where
  pub not_head : number sections.head ≡ number k → ⊥
  pub not_rewrites : number sections.rewrites ≡ number k → ⊥
  pub not_outputs : number sections.outputs ≡ number k → ⊥

module _ (w : List ℕ) where
  pub same_words : SameTables w w
  same_words = record { words = refl; same_rewrites = refl; same_outputs = refl; totals = λ q a b. refl }

  pub word_elsewhere : (k : Section) → Elsewhere k → (i x : ℕ) → SameTables w (stored w k i x)
  word_elsewhere k d i x =
      record {
        words = stored_length (start k) (size k) w i x;
        same_rewrites = section_other w k i x rewrites d.not_rewrites;
        same_outputs = section_other w k i x outputs d.not_outputs;
        totals = λ q a b. ap (λ l. get_or l q 0) (section_other w k i x head d.not_head);
      }

pub same_then : {w w₁ w₂ : List ℕ} → SameTables w w₁ → SameTables w₁ w₂ → SameTables w w₂
same_then a b =
    record {
      words = b.words ∙ a.words;
      same_rewrites = b.same_rewrites ∙ a.same_rewrites;
      same_outputs = b.same_outputs ∙ a.same_outputs;
      totals = λ q d e. b.totals q d e ∙ a.totals q d e;
    }
