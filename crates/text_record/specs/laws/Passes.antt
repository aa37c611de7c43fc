-- The pass lines by the places of the targets: a target that stood before has none.
use Rattle.std.specs.Prelude.{◌≡◌, refl, Bool, true, false, List, ◌∷◌, ◌++◌, map, ℕ, suc, ◌+◌, ◌≤◌, ◌<◌, length, get_or, drop}
use Rattle.std.proofs.Common.{sym, ap, ◌∙◌, add-one, arith, drop_of_length-le, drop-cons}
use Rattle.std.proofs.lemmas.List.{length-map}
use Rattle.std.proofs.Math.ListN.{get_or-map}
use Rattle.meaning.specs.Graph.{Edge, no_edge}
use Rattle.meaning.specs.Text.{Text}
use Rattle.meaning.specs.Lists.{is_in}
use Rattle.meaning.specs.facts.Members.{seen_twice}
use Rattle.format.specs.References.{first_edges}
use Rattle.format.specs.laws.FirstEdges.{edges_again, edges_new, same_members}
use Rattle.fields.specs.ByNumber.{before, stands_before}
use Rattle.fields.specs.laws.Repeats.{stands_within}
use Rattle.text.specs.Text.{text_of_each}
use Rattle.text.specs.Buffer.{Buffer, Wrote}
use Rattle.text.specs.laws.BufferLaws.{◌▸◌, of_text, wrote_none}
use Rattle.text_parts.specs.Listing.{pass_text, passes_text}
use Rattle.text_parts.specs.Parts.{pass_once}

abbrev pub pass_targets : List Edge → List ℕ
pass_targets es = map (λ e. e.target) es

-- The lines from place j on.
unfoldable pub passes_from : List Edge → ℕ → Text
unfolding text_of_each pass_text first_edges before
passes_from es j = text_of_each pass_text (first_edges (before (pass_targets es) j) (drop j es))

-- One edge more: it has a line unless its target stood before.
first_by : (again : Bool) (seen : List ℕ) (e : Edge) (es : List Edge) → is_in e.target seen ≡ again
    → text_of_each pass_text (first_edges seen (e ∷ es)) ≡ pass_once again e ++ text_of_each pass_text (first_edges (e.target ∷ seen) es)
unfolding text_of_each pass_once
first_by true seen e es h =
    ap (text_of_each pass_text) (edges_again seen e es h ∙ same_members es seen (e.target ∷ seen)
    (λ x. sym (seen_twice x e.target seen h)))
first_by false seen e es h = ap (text_of_each pass_text) (edges_new seen e es h)

target_at : (es : List Edge) (j : ℕ) → get_or (pass_targets es) j 0 ≡ (get_or es j no_edge).target
target_at es j = get_or-map (λ e. e.target) es j no_edge

passes_next : (es : List Edge) (j : ℕ) → j < length es
    → passes_from es j ≡ pass_once (stands_before (pass_targets es) j) (get_or es j no_edge) ++ passes_from es (j + 1)
unfolding passes_from before
passes_next es j h =
    let e = get_or es j no_edge in
    let seen = before (pass_targets es) j in
    let stood : is_in e.target seen ≡ is_in (get_or (pass_targets es) j 0) seen = ap (λ x. is_in x seen) (sym (target_at es j)) in
    ap (λ l. text_of_each pass_text (first_edges seen l)) (drop-cons es j no_edge h)
    ∙ first_by (is_in (get_or (pass_targets es) j 0) seen) seen e (drop (suc j) es) stood
    ∙ ap (λ x. pass_once (is_in (get_or (pass_targets es) j 0) seen) e ++ text_of_each pass_text (first_edges (x ∷ seen) (drop (suc j) es)))
    (sym (target_at es j))
    ∙ ap (λ n. pass_once (is_in (get_or (pass_targets es) j 0) seen) e ++ text_of_each pass_text
    (first_edges (before (pass_targets es) n) (drop n es))) (sym (add-one j))
    ∙ ap (λ b. pass_once b e ++ passes_from es (j + 1))
    (sym (stands_within (pass_targets es) j (omega (arith, length-map es (λ e. e.target)))))

pub passes_all : (es : List Edge) → passes_from es 0 ≡ passes_text es
unfolding passes_from passes_text before
passes_all es = refl

pub wrote_pass : {o p q : Buffer} (es : List Edge) (j : ℕ) → j < length es
    → Wrote o (pass_once (stands_before (pass_targets es) j) (get_or es j no_edge)) p → Wrote p (passes_from es (j + 1)) q
    → Wrote o (passes_from es j) q
wrote_pass es j h x y = of_text (sym (passes_next es j h)) (x ▸ y)

pub wrote_passes : {o : Buffer} (es : List Edge) (j : ℕ) → length es ≤ j → Wrote o (passes_from es j) o
unfolding passes_from first_edges text_of_each
wrote_passes es j h =
    of_text (sym (ap (λ l. text_of_each pass_text (first_edges (before (pass_targets es) j) l))
    (drop_of_length-le es {i = j} h))) wrote_none
