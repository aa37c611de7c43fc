-- Statement 4 from the three before it, and statement 5: whatever the top definition accepts is sound, and what it refuses numbered.
use Rattle.std.specs.Prelude.{◌≡◌, refl, Bool, true, false, List, ℕ, ◌<◌, length, leb}
use Rattle.std.proofs.Common.{ap, ◌∙◌}
use Rattle.std.proofs.Math.Option.{Option}
use Rattle.meaning.specs.Graph.{Value, Graph}
use Rattle.format.specs.Store.{Answer, accepted, refused}
use Rattle.format.specs.Accept.{accept}
use Rattle.format.specs.Valid.{Valid}
use Rattle.format.specs.laws.AcceptValid.{accept_valid}
use Rattle.format.proofs.laws.Refusals.{IfRefused, then_refused, refusal_range}
use Rattle.nesting.proofs.laws.NoMarks.{no_marks}
use Rattle.nesting.proofs.named.ValidNamed.{nested_named}
use Rattle.meaning.specs.facts.Tests.{clash}
use Rattle.format.specs.laws.WellRead.{step}
use Rattle.nesting.specs.Nesting.{Nested, structurize_func}
use Rattle.nesting.specs.Sheet.{figure, Sheet, sheet_of, sheet_words, sheet_for, words_fit, answer}
use Rattle.follows.specs.Statements.{HasForm, is_whole, is_closed, SoundSheet, Sound, Refusal, by_store, by_limit, by_lent, by_figure}
use Rattle.follows.specs.Statements.{Refused}
use Rattle.follows.specs.simulation.Follows.{follows}
use Rattle.follows.specs.cost.Bounded.{bounded}
use Rattle.follows.proofs.counting.Attempts.{attempts, refused_nine}
use Rattle.meaning.specs.Lists.{Within}

-- ---- what the sheet shows of a form
-- a sheet that fits is handed on as it is
fitting : (b : Bool) (k : ℕ) (s t : Sheet) → elim b as (λ b. Answer Sheet) [ true ↦ accepted s | false ↦ refused k 0 ] ≡ accepted t → t ≡ s
fitting true k s t h = cc
fitting false k s t h = absurd (clash (cc))

attempts_shown : (g : Graph) (n : Nested) → (sheet_of g n).attempts ≡ n.attempts
unfolding sheet_of
attempts_shown g n = refl

figure_shown : (g : Graph) (n : Nested) (outs : Option (List Value)) → HasForm n outs
    → (sheet_of g n).figure ≡ figure g.test_cost n.entry.children
unfolding sheet_of
figure_shown g n outs (is_whole e) = rw e
figure_shown g n outs (is_closed e) = rw e

-- ---- the three parts of the top definition, taken apart
record ShownSheet (store : List ℕ) (s : Sheet) : Type 0 where
  graph : Graph
  nest : Nested
  accepts : accept store ≡ accepted graph
  nests : structurize_func graph ≡ accepted nest
  shows : s ≡ sheet_of graph nest

shown_for : (store : List ℕ) (s : Sheet) → sheet_for store ≡ accepted s → ShownSheet store s
unfolding sheet_for
shown_for store s h =
    let a = step (accept store) _ s h in
    let b = step (structurize_func a.value) _ s a.second in
    record {
      graph = a.value;
      nest = b.value;
      accepts = a.first;
      nests = b.first;
      shows = fitting (leb (sheet_of a.value b.value).figure 4294967295) 11 (sheet_of a.value b.value) s b.second;
    }

shown_answer : (store : List ℕ) (lent : ℕ) (s : Sheet) → answer store lent ≡ accepted s → ShownSheet store s
unfolding answer
shown_answer store lent s h =
    let a = step (sheet_for store) (words_fit lent) s h in
    let z : s ≡ a.value = fitting (leb (length (sheet_words a.value)) lent) 10 a.value s a.second in
    rw z (shown_for store a.value a.first)

sound_sheet : (store : List ℕ) (s : Sheet) → ShownSheet store s → SoundSheet store s
sound_sheet store s y =
    let valid = accept_valid store y.graph y.accepts in
    let same_attempts : s.attempts ≡ y.nest.attempts = ap (λ t. t.attempts) y.shows ∙ attempts_shown y.graph y.nest in
    record {
      graph = y.graph;
      nest = y.nest;
      accepts = y.accepts;
      nests = y.nests;
      shows = y.shows;
      unmarked = no_marks y.graph y.nest y.nests;
      named = nested_named y.graph valid y.nest y.nests;
      follows = follows y.graph valid y.nest y.nests;
      bounded = λ outs f x b e p q.
          let same_figure : s.figure ≡ figure y.graph.test_cost y.nest.entry.children =
          ap (λ t. t.figure) y.shows ∙ figure_shown y.graph y.nest outs f in
          rw same_figure (bounded y.graph x y.nest.entry.children outs b e p q);
      attempts = rw same_attempts (attempts y.graph valid y.nest y.nests);
    }

-- Statement 4.
pub sound : Sound
sound store lent s h = sound_sheet store s (shown_answer store lent s h)

-- ---- the refusals of each part
unless : (b : Bool) (k : ℕ) (s : Sheet) → Refusal k 0 → IfRefused {A = Sheet} Refusal
    (elim b as (λ b. Answer Sheet) [ true ↦ accepted s | false ↦ refused k 0 ])
unless true k s h = tt
unless false k s h = h

of_store : (store : List ℕ) → IfRefused Refusal (accept store)
of_store store = go (accept store) (refusal_range store)
  where
    go : (a : Answer Graph) → IfRefused (λ n w. Within 1 8 n × (w < 32)) a → IfRefused Refusal a
    go (accepted g) h = tt
    go (refused n w) h = by_store h.0 h.1

of_nesting : (g : Graph) → Valid g → IfRefused Refusal (structurize_func g)
of_nesting g valid = go (structurize_func g) refl
  where
    go : (a : Answer Nested) → structurize_func g ≡ a → IfRefused Refusal a
    go (accepted x) e = tt
    go (refused n w) e = let h = refused_nine g valid n w e in rw (h.0, h.1) by_limit

of_sheet : (store : List ℕ) → IfRefused Refusal (sheet_for store)
unfolding sheet_for
of_sheet store =
    then_refused Refusal (accept store) _ (of_store store) λ g e.
    then_refused Refusal (structurize_func g) _ (of_nesting g (accept_valid store g e)) λ x f.
    unless (leb (sheet_of g x).figure 4294967295) 11 (sheet_of g x) by_figure

of_answer : (store : List ℕ) (lent : ℕ) → IfRefused Refusal (answer store lent)
unfolding answer
of_answer store lent =
    then_refused Refusal (sheet_for store) _ (of_sheet store) λ s e. unless (leb (length (sheet_words s)) lent) 10 s by_lent

-- Statement 5.
pub refusals : Refused
refusals store lent n w h = rw h at (of_answer store lent)
