-- The claimed cases' inputs replaced, for every state that the words show.
use Rattle.std.specs.Prelude.{◌≡◌, refl, List, [], ◌∷◌, ◌++◌, ℕ, suc, ◌<◌, length, get_or}
use Rattle.std.proofs.Common.{sym, ap, subst, ◌∙◌, arith}
use Rattle.meaning.specs.Graph.{Graph, undef}
use Rattle.nesting.specs.Nesting.{ClaimedRegion, DeferredEdgeBundleSet, MaybeClaimedRegion, ok, err, NestState, done, replace_inputs}
use Rattle.nesting.specs.Nesting.{replace_with, with_tables}
use Rattle.nesting.specs.Nesting.{most_regions}
use Rattle.state_words.specs.Sections.{section, cases, rewrites}
use Rattle.state_nodes.specs.NodeTables.{inserted}
use Rattle.state_regions.specs.RegionTables.{case_total}
use Rattle.state_shown.specs.Values.{value}
use Rattle.state_shown.specs.laws.Stores.{ChangesOnly, nothing_changes, changes_then}
use Rattle.state_shown.specs.Tables.{ShowsTables, EntryWords, replace_words}
use Rattle.state_shown.specs.laws.Rewrites.{insert_changes, rewrites_inserted}
use Rattle.state_shown.specs.laws.NamedSteps.{named_inserted}
use Rattle.state_shown.specs.Sets.{Names}
use Rattle.state_shown.specs.States.{NamedRewrites, ShowsCases, ShowsCase, shows_ok, shows_nothing, shows_edge, shows_others, no_case}
use Rattle.cfg_bundles.specs.EdgesAndCases.{case_inputs}
use Rattle.cfg_bundles.specs.laws.shown.Appended.{inputs_at}
use Rattle.cfg_select_nodes.specs.Cases.{inputs_replaced, all_replaced}
use Rattle.cfg_select_nodes.specs.laws.paths.CasesLaws.{replaced_claimed, replaced_not}
use Rattle.cfg_select_nodes.specs.laws.shown.Places.{From, first_of, rest_of, from_start}
use Rattle.state_words.specs.Rows.{case_body, case_body_at, case_claimed, case_input, case_kind, case_kind_at, entry_replace, regions_at}

-- What the words of case j say of what is to be replaced.
pub data ShowsGiven (w : List ℕ) (j : ℕ) : MaybeClaimedRegion → Type 0 where
  given_inputs : {c : ClaimedRegion} → case_kind w j ≡ case_claimed → case_body w j ≡ c.structured_body
      → c.structured_body < most_regions
      → ((k : ℕ) → k < 4 → Names (case_input w j k) (get_or c.structured_body_inputs k (undef 0)))
      → ShowsGiven w j (ok c)
  given_nothing : {d : DeferredEdgeBundleSet} → (case_kind w j ≡ case_claimed → ⊥) → ShowsGiven w j (err d)

pub given_shown : {g : Graph} {w : List ℕ} {r j : ℕ} {c : MaybeClaimedRegion} → ShowsCase g w r j c → ShowsGiven w j c
given_shown (shows_ok {c} k o b s t n a z i) = given_inputs {c = c} k s t i
given_shown (shows_nothing k z) = given_nothing (omega arith)
given_shown (shows_edge k a z) = given_nothing (omega arith)
given_shown (shows_others k a) = given_nothing (omega arith)

given_stays : {w w' : List ℕ} → section w' cases ≡ section w cases → {j : ℕ} {c : MaybeClaimedRegion} → ShowsGiven w j c → ShowsGiven w' j c
given_stays e {j} (given_inputs {c} k b h i) =
    given_inputs {c = c} (ap (λ l. get_or l (case_kind_at j) 0) e ∙ k) (ap (λ l. get_or l (case_body_at j) 0) e ∙ b) h (λ m z. rw e (i m z))
given_stays e {j} (given_nothing d) = given_nothing (λ z. d (sym (ap (λ l. get_or l (case_kind_at j) 0) e) ∙ z))

pub record ReplacedShown (w w' : List ℕ) (cs : List MaybeClaimedRegion) (s : NestState) : Type 0 where
  pub next : NestState
  pub is : replace_inputs cs s ≡ done tt next
  pub tables : ShowsTables w' next
  pub named : NamedRewrites w'
  pub changes : ChangesOnly rewrites regions_at w w'
  pub same_states : next.region_states ≡ s.region_states

-- The cases from place j on.
replaced_from : (cs : List MaybeClaimedRegion) (j : ℕ) {w : List ℕ} {s : NestState} → From no_case (ShowsGiven w) j cs → ShowsTables w s
    → NamedRewrites w → ReplacedShown w (all_replaced w (length cs) j) cs s
unfolding all_replaced replace_inputs
replaced_from [] j {w} {s} f t n =
    record { next = s; is = refl; tables = t; named = n; changes = nothing_changes rewrites regions_at w; same_states = refl }
replaced_from (c ∷ cs) j {w} {s} f t n =
    step c (first_of no_case (ShowsGiven w) j c cs f) (rest_of no_case (ShowsGiven w) j c cs f)
    (λ w₁ s₁ f₁ t₁ n₁. replaced_from cs (suc j) f₁ t₁ n₁)
  where
    step : (c : MaybeClaimedRegion) → ShowsGiven w j c → From no_case (ShowsGiven w) (suc j) cs
        → ((w₁ : List ℕ) (s₁ : NestState) → From no_case (ShowsGiven w₁) (suc j) cs → ShowsTables w₁ s₁ → NamedRewrites w₁
        → ReplacedShown w₁ (all_replaced w₁ (length cs) (suc j)) cs s₁)
        → ReplacedShown w (all_replaced (inputs_replaced w j) (length cs) (suc j)) (c ∷ cs) s
    step (err d) (given_nothing k) rest go = rw (← replaced_not w j k) (as_rest (go w s rest t n))
      where
        as_rest : {w' : List ℕ} → ReplacedShown w w' cs s → ReplacedShown w w' (err d ∷ cs) s
        as_rest y = record {
          next = y.next;
          is = y.is;
          tables = y.tables;
          named = y.named;
          changes = y.changes;
          same_states = y.same_states;
        }
    step (ok c) (given_inputs k b h i) rest go =
        let body = case_body w j in
        let vs = case_inputs w j in
        let w₁ = inserted w body entry_replace vs in
        let changes = insert_changes w body 1 vs 0 in
        let in_table : body < most_regions = omega arith in
        let entry : EntryWords body 1 vs (replace_with c.structured_body_inputs) =
        replace_words refl (λ m z. ap value (inputs_at w j m z) ∙ (i m z).is) in
        let with_entry : ℕ → NestState = λ q. with_tables s.region_states
        (s.region_input_rewrites ++ (record { region = q; rewrites = replace_with c.structured_body_inputs } ∷ [])) s.node_outputs s
        in
        let y = go w₁ (with_entry c.structured_body) (λ m z. given_stays (changes.others cases (omega arith) (omega arith)) (rest m z))
        (subst (λ q. ShowsTables w₁ (with_entry q)) b (rewrites_inserted t in_table refl entry refl))
        (named_inserted w body entry_replace vs t.size in_table refl (λ m z. rw (inputs_at w j m z) (i m z).below) n) in
        rw (← replaced_claimed w j k refl refl refl)
        record {
          next = y.next;
          is = y.is;
          tables = y.tables;
          named = y.named;
          changes = changes_then changes y.changes;
          same_states = y.same_states;
        }

pub replaced_shown : {g : Graph} {w : List ℕ} {r : ℕ} {cs : List MaybeClaimedRegion} {s : NestState} → ShowsCases g w r cs → ShowsTables w s
    → NamedRewrites w → ReplacedShown w (all_replaced w (case_total w) 0) cs s
replaced_shown {w} {cs} shown t n =
    rw shown.size (replaced_from cs 0 (from_start no_case (ShowsGiven w) cs (λ j h. given_shown (shown.each j h))) t n)
