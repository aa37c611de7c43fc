-- From what nesting left in the words to the answer for a record.
use Rattle.std.specs.Prelude.{◌≡◌, refl, Bool, true, false, List, [], ◌∷◌, ◌++◌, ℕ, ◌≤◌, ◌<◌, min, length, drop, Result, Ok, Err}
use Rattle.std.proofs.Common.{sym, ap, ◌∙◌, arith, le-leb}
use Rattle.std.proofs.Math.Decide.{dec_lt}
use Rattle.std.proofs.lemmas.Bool.{lt-leb}
use Rattle.meaning.specs.Graph.{Graph}
use Rattle.meaning.specs.Runs.{Nodes, ⟨⟩}
use Rattle.meaning.specs.facts.Tests.{clash}
use Rattle.format.specs.Store as format
use Rattle.format.specs.Store.{accepted, refused, if_accepted}
use Rattle.format.specs.Valid.{Valid}
use Rattle.format.specs.Refusals.{too_few_words, figure_too_large}
use Rattle.record.specs.Stands.{OfRecord}
use Rattle.nesting.specs.Nesting.{NestState, Nested, Outcome, untouched, whole, closed, leftover, outcome_of, conclude_by, initial_state}
use Rattle.nesting.specs.Nesting.{structurize_func, DeferredEdgeBundle, DeferredEdgeBundleSet, DeferredTarget, to_region, to_return}
use Rattle.nesting.specs.Nesting.{region_body, piece}
use Rattle.figure.specs.laws.Nodes.{piece_looked_up}
use Rattle.nesting.specs.Sheet as sheet
use Rattle.nesting.specs.Sheet.{sheet_of, sheet_words}
use Rattle.nesting.specs.lookups.ChainEnds.{no_more}
use Rattle.nesting.specs.SheetNumbers.{outcome_untouched, outcome_whole, outcome_closed, outcome_leftover}
use Rattle.state_words.specs.Sections.{section, cells, word}
use Rattle.state_words.specs.Sections as sections
use Rattle.state_shown.specs.Front.{SameFront}
use Rattle.state_shown.specs.Cells.{ShowsNodes}
use Rattle.state_shown.specs.States.{ShowsBody}
use Rattle.cfg.specs.declared.func.Outcome as code
use Rattle.cfg.specs.declared.func.Outcome.TheVariants as outcomes
use Rattle.cfg.specs.FuncShown.{ShowsNested, outcome_code, shows_untouched, shows_nested, shows_refused}
use Rattle.figure.specs.Figured.{Figured}
use Rattle.sheet_words.specs.Parts.{Concluded}
use Rattle.sheet.specs.declared.whole.TooFew.{TooFew}
use Rattle.sheet.specs.Written.{ShowsAnswer, lent, SheetWritten, sheet_written, too_few, WritesSheet}
use Rattle.sheet.specs.Written as written
use Rattle.nester.specs.Answers.{Ends, words_if_fit, words_if_figured, record_words, WritesAnswer, FormsAnswer, NestsRecord}
use Rattle.store.specs.Refusals.{refused_as}
use Rattle.store.specs.declared.refusals.Refusal.{Refusal}
use Rattle.store.specs.declared.refusals.Refusal.TheVariants.{TooFewWords, FigureTooLarge}
use Rattle.state_words.specs.Rows.{kind_claimed, region_kind}

module _ {b : format.Answer (List ℕ)} {out out' : List ℕ} where
  pub ends_sheet : {ws : List ℕ} {n : ℕ} → b ≡ accepted ws → n ≡ length ws → out' ≡ ws ++ drop (length ws) out → Ends b out out' (Ok n)
  ends_sheet e size d = record { answer = rw (e, size); words = rw e d }

  pub ends_refused : {why : Refusal} → b ≡ refused_as why → out' ≡ out → Ends b out out' (Err why)
  ends_refused e d = record { answer = rw e; words = rw e d }

-- ---- Refusal 10.
abbrev fit_by : sheet.Sheet → Bool → format.Answer (List ℕ)
fit_by s b = if_accepted (elim b as (λ b. format.Answer sheet.Sheet) [ true ↦ accepted s | false ↦ refused too_few_words 0 ]) λ t.
    accepted (sheet_words t)

module _ (s : sheet.Sheet) {out out' : List ℕ} where
  fits : {n : ℕ} → SheetWritten (sheet_words s) out out' (Ok n) → Ends (words_if_fit (lent out) s) out out' (Ok n)
  fits (sheet_written size few e) =
      ends_sheet {ws = sheet_words s} (ap (fit_by s) (le-leb (length (sheet_words s)) (lent out) few)) size e

  fits_not : {short : TooFew} → SheetWritten (sheet_words s) out out' (Err short) → Ends (words_if_fit (lent out) s) out out' (Err TooFewWords)
  fits_not (too_few few e) = ends_refused {why = TooFewWords} (ap (fit_by s) (lt-leb (length (sheet_words s)) (lent out) few)) e

module _ (w : List ℕ) (outcome figure : ℕ) {out out' : List ℕ} {y : Result ℕ TooFew}
    (wrote : WritesSheet w outcome figure out out' y) where
  pub written_words : {n : ℕ} → y ≡ Ok n → WritesAnswer w outcome figure out out' (Ok n)
  written_words e g s c x shown f = fits (sheet_of g x) (rw e at (wrote g s c x shown f))

  pub written_few : {short : TooFew} → y ≡ Err short → WritesAnswer w outcome figure out out' (Err TooFewWords)
  written_few e g s c x shown f = fits_not (sheet_of g x) (rw e at (wrote g s c x shown f))

-- ---- Refusal 11.
abbrev figure_by : ℕ → sheet.Sheet → Bool → format.Answer (List ℕ)
figure_by lent s b =
    if_accepted (elim b as (λ b. format.Answer sheet.Sheet) [ true ↦ accepted s | false ↦ refused figure_too_large 0 ]) (words_if_fit lent)

figure_in : (s : sheet.Sheet) → s.figure ≤ 4294967295 → (lent : ℕ) → words_if_figured lent s ≡ words_if_fit lent s
figure_in s h lent = ap (figure_by lent s) (le-leb s.figure 4294967295 h)

figure_out : (s : sheet.Sheet) → 4294967295 < s.figure → (lent : ℕ) → words_if_figured lent s ≡ refused figure_too_large 0
figure_out s h lent = ap (figure_by lent s) (lt-leb s.figure 4294967295 h)

-- The figure of a whole or closed answer is that of the entry's children, before they are looked up.
record FormShown (g : Graph) (w : List ℕ) (x : Nested) : Type 0 where
  pub children : Nodes
  pub nodes : ShowsNodes g (section w cells) (word w sections.children g.entry) children
  pub figure : (sheet_of g x).figure ≡ sheet.figure g.test_cost children

form_shown : {g : Graph} {w : List ℕ} {s : NestState} {x : Nested} {m : ℕ} → ShowsAnswer g w s x m → 1 ≤ m → m ≤ 2 → FormShown g w x
unfolding sheet_of
form_shown (written.shows_untouched e) a b = absurd (omega arith)
form_shown {g} {s = s} (written.shows_whole {ks} {e = d} body e) a b =
    rw e (record {
      children = ks;
      nodes = body.nodes.nodes;
      figure = piece_looked_up g.test_cost g s (piece g g.entry ks d.target_inputs []);
    })
form_shown {g} {s = s} (written.shows_closed {ks} body e) a b =
    rw e (record { children = ks; nodes = body.nodes.nodes; figure = piece_looked_up g.test_cost g s (piece g g.entry ks [] []) })
form_shown (written.shows_leftover k body e) a b = absurd (omega arith)

module _ (w : List ℕ) (outcome : ℕ) {entry list cost : ℕ} (is_entry : OfRecord w (λ g. entry ≡ g.entry))
    (handle : list ≡ word w sections.children entry) (figured : Figured w list cost) where
  -- What the code computed is the figure, held at the first number beyond.
  cost_is : (g : Graph) (s : NestState) → Concluded g w s → (x : Nested) → ShowsAnswer g w s x outcome → 1 ≤ outcome → outcome ≤ 2
      → cost ≡ min (sheet_of g x).figure 4294967296
  cost_is g s c x shown a b =
      let form = form_shown shown a b in
      let stands = c.state.stands in
      let at : ShowsNodes g (section w cells) list form.children = rw (handle, is_entry g stands) form.nodes in
      figured.shown g stands form.children at ∙ rw form.figure

  pub too_dear : (out : List ℕ) → cost ≡ 4294967296 → FormsAnswer w outcome out out (Err FigureTooLarge)
  too_dear out e g s c x shown a b =
      let is = cost_is g s c x shown a b in
      ends_refused (figure_out (sheet_of g x) (omega arith) (lent out)) refl

  pub within_figure : {out out' : List ℕ} {a : Result ℕ Refusal} → (cost ≡ 4294967296 → ⊥)
      → WritesAnswer w outcome cost out out' a → FormsAnswer w outcome out out' a
  within_figure {out} d p g s c x shown a b =
      let is = cost_is g s c x shown a b in
      let small : (sheet_of g x).figure ≤ 4294967295 = figure_small (sheet_of g x).figure is d in
      rw (figure_in (sheet_of g x) small (lent out)) (p g s c x shown (same_figure (sheet_of g x).figure is d))
    where
      figure_small : (f : ℕ) → cost ≡ min f 4294967296 → (cost ≡ 4294967296 → ⊥) → f ≤ 4294967295
      figure_small f e d = elim (dec_lt f 4294967296) [
        | yes h ↦ omega arith
        | no h ↦ absurd (d (omega arith))
      ]

      same_figure : (f : ℕ) → cost ≡ min f 4294967296 → (cost ≡ 4294967296 → ⊥) → cost ≡ f
      same_figure f e d = let s = figure_small f e d in omega arith

-- ---- What nesting left in the words.
record Answered (g : Graph) (w : List ℕ) (n : ℕ) : Type 0 where
  pub state : NestState
  pub nest : Nested
  pub concluded : Concluded g w state
  pub nests : structurize_func g ≡ accepted nest
  pub shows : ShowsAnswer g w state nest n

-- The number of an outcome.
abbrev pub number_of : code.Outcome → ℕ
number_of outcomes.Untouched = outcome_untouched
number_of outcomes.Whole = outcome_whole
number_of outcomes.Closed = outcome_closed
number_of outcomes.Leftover = outcome_leftover

module _ {g : Graph} {w : List ℕ} {s : NestState} (c : Concluded g w s) (kind : region_kind w g.entry ≡ kind_claimed) (ks : Nodes) where
  leaves : (d : DeferredEdgeBundleSet) {o : Outcome} → outcome_of d ≡ o → ShowsBody g w g.entry (region_body ks d)
      → structurize_func g ≡ accepted (conclude_by g s ks d (outcome_of d)) → ShowsAnswer g w s (conclude_by g s ks d o)
      (number_of (outcome_code o))
      → Answered g w (number_of (outcome_code (outcome_of d)))
  leaves d {o} z body b shows = rw z (record { state = s; nest = conclude_by g s ks d o; concluded = c; nests = rw z at b; shows = shows })

  by_target : (e : DeferredEdgeBundle) (d : DeferredEdgeBundleSet) (t : DeferredTarget) → e.target ≡ t
      → ShowsBody g w g.entry (region_body ks (e ∷ d)) → structurize_func g ≡ accepted (conclude_by g s ks (e ∷ d) (outcome_of (e ∷ d)))
      → Answered g w (number_of (outcome_code (outcome_of (e ∷ d))))
  by_target e d (to_region r) z body b = leaves (e ∷ d) {o = leftover} (rw z) body b (written.shows_leftover kind body refl)
  by_target e [] to_return z body b = leaves (e ∷ []) {o = whole} (rw z) body b (written.shows_whole body refl)
  by_target e (f ∷ d) to_return z body b = leaves (e ∷ f ∷ d) {o = leftover} (rw z) body b (written.shows_leftover kind body refl)

  by_set : (d : DeferredEdgeBundleSet) → ShowsBody g w g.entry (region_body ks d)
      → structurize_func g ≡ accepted (conclude_by g s ks d (outcome_of d)) → Answered g w (number_of (outcome_code (outcome_of d)))
  by_set [] body b =
      record { state = s; nest = conclude_by g s ks [] closed; concluded = c; nests = b; shows = written.shows_closed body refl }
  by_set (e ∷ d) body b = by_target e d e.target refl body b

-- Its words follow the answer of nesting.
words_for : (g : Graph) (lent : ℕ) {x : Nested} → structurize_func g ≡ accepted x
    → record_words g lent ≡ words_if_figured lent (sheet_of g x)
unfolding record_words
words_for g lent e = ap (λ b. if_accepted b λ y. words_if_figured lent (sheet_of g y)) e

no_figure : {g : Graph} {w : List ℕ} {s : NestState} {x : Nested} {n : ℕ} → ShowsAnswer g w s x n → (1 ≤ n → n ≤ 2 → ⊥)
    → (sheet_of g x).figure ≡ 0
unfolding sheet_of
no_figure (written.shows_untouched e) d = rw e
no_figure (written.shows_whole body e) d = absurd (d (omega arith) (omega arith))
no_figure (written.shows_closed body e) d = absurd (d (omega arith) (omega arith))
no_figure (written.shows_leftover k body e) d = rw e

module _ {g : Graph} (valid : Valid g) {before w : List ℕ} where
  answered : {a : code.Outcome} → ShowsNested g before w (structurize_func g) (Ok a) → {n : ℕ} → number_of a ≡ n → Answered g w n
  answered (shows_untouched front st b) e =
      rw (← e) (record {
        state = initial_state g;
        nest = conclude_by g (initial_state g) ⟨⟩ [] untouched;
        concluded = record { valid = valid; state = st; chains = λ r. no_more refl };
        nests = b;
        shows = written.shows_untouched refl;
      })
  answered (shows_nested {s} {x} front st chains kind body b a) e =
      rw (← e, a) (by_set (record { valid = valid; state = st; chains = chains }) kind x.children x.deferred_edges body b)

  front_of : {a : Result code.Outcome Refusal} → ShowsNested g before w (structurize_func g) a → SameFront before w
  front_of (shows_untouched front st b) = front
  front_of (shows_nested front st chains kind body b a) = front
  front_of (shows_refused front b) = front

  module _ {a : code.Outcome} (shown : ShowsNested g before w (structurize_func g) (Ok a)) {out out' : List ℕ} {b : Result ℕ Refusal} where
    pub nested_unfigured : {n : ℕ} → number_of a ≡ n → (1 ≤ n → n ≤ 2 → ⊥) → WritesAnswer w n 0 out out' b
        → NestsRecord g before w out out' b
    nested_unfigured e d p =
        let y = answered shown e in
        let none = no_figure y.shows d in
        let small : (sheet_of g y.nest).figure ≤ 4294967295 = omega arith in
        record {
          ends = rw (words_for g (lent out) y.nests, figure_in (sheet_of g y.nest) small (lent out))
              (p g y.state y.concluded y.nest y.shows (sym none));
          front = front_of shown;
        }

    pub nested_formed : {n : ℕ} → number_of a ≡ n → 1 ≤ n → n ≤ 2 → FormsAnswer w n out out' b → NestsRecord g before w out out' b
    nested_formed e low high p =
        let y = answered shown e in
        record {
          ends = rw (words_for g (lent out) y.nests) (p g y.state y.concluded y.nest y.shows low high);
          front = front_of shown;
        }

  pub nested_refused : {why : Refusal} → ShowsNested g before w (structurize_func g) (Err why) → (out : List ℕ)
      → NestsRecord g before w out out (Err why)
  unfolding record_words
  nested_refused (shows_refused front b) out =
      record {
        ends = ends_refused (ap (λ z. if_accepted z λ u. words_if_figured (lent out) (sheet_of g u)) b) refl;
        front = front;
      }
