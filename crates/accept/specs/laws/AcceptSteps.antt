-- From a loaded store to the whole answer: the store's refusal, or the verdict on its words.
use Rattle.std.specs.Prelude.{◌≡◌, refl, List, ◌++◌, ℕ, ◌+◌, ◌-◌, ◌≤◌, length, take, drop, Result, Ok, Err}
use Rattle.std.proofs.Common.{sym, ap, ◌∙◌, arith, length-append, length-drop, le-leb, take-take, drop-drop}
use Rattle.std.proofs.Math.Seq.{slice}
use Rattle.format.specs.Store.{Answer, accepted, refused, if_accepted, store_words}
use Rattle.format.specs.Read.{read_record}
use Rattle.format.specs.Accept.{with_references, accept}
use Rattle.meaning.specs.facts.Tests.{clash}
use Rattle.meaning.specs.facts.Parts.{same_part}
use Rattle.store.specs.declared.refusals.Refusal.{Refusal}
use Rattle.store.specs.Refusals.{refused_as}
use Rattle.store.specs.Loaded.{answered, words_counted, words_after, Loads}
use Rattle.store.specs.laws.Front.{Front, front}
use Rattle.store.specs.Layout.{record_end, index_end}
use Rattle.record.specs.Outcome.{forget, record_in}
use Rattle.accept.specs.Accepts.{Accepts, ReadChecked}

accept_is : (s : List ℕ) {r : Answer (List ℕ)} → store_words s ≡ r → accept s ≡ if_accepted r (λ ws. with_references (read_record ws))
unfolding accept
accept_is s h = ap (λ x. if_accepted x (λ ws. with_references (read_record ws))) h

pub store_refused : (s old mid : List ℕ) {why : Refusal} → Loads s old mid (Err why) → Accepts s old mid (Err why)
store_refused s old mid {why} l = by_answer (store_words s) refl l.answer l.words
  where
    by_answer : (a : Answer (List ℕ)) → store_words s ≡ a → refused_as why ≡ words_counted a → mid ≡ words_after old a → Accepts s old mid (Err why)
    by_answer (accepted ws) q e k = absurd (clash (cc))
    by_answer (refused m v) q e k =
        let whole = accept_is s q in
        let same : ◌≡◌ {A = Answer Unit} (refused_as why) (refused m v) = cc in
        record {
          answer = same ∙ sym (ap forget whole);
          stands = λ g f. absurd (clash (cc));
          in_front = λ ws f. absurd (clash (cc));
          between = λ ws f. absurd (clash (cc));
          size = ap length k;
          beyond = ap (drop index_end) k;
          as_lent = λ i j f. k;
        }

-- The store's words in front of the lent words, W of them.
module _ (s old mid : List ℕ) {count : ℕ} (room : index_end ≤ length old) (l : Loads s old mid (Ok count)) where
  in_front : Front s old mid count
  in_front = front s old mid count l

  count_is : count ≡ length (take count mid)
  count_is = let known = l.answer ∙ ap words_counted in_front.words in cc

  mid_size : length mid ≡ length old
  mid_size =
      let few = in_front.few in
      let all = count_is in
      let parts : mid ≡ take count mid ++ drop (length (take count mid)) old = l.words ∙ ap (words_after old) in_front.words in
      omega (
        arith,
        ap length parts,
        length-append (take count mid) (drop (length (take count mid)) old),
        length-drop (length (take count mid)) old,
      )

  mid_beyond : drop index_end mid ≡ drop index_end old
  mid_beyond =
      let few = in_front.few in
      let split : count + (index_end - count) ≡ index_end = omega arith in
      ap (λ k. drop k mid) (sym split)
      ∙ sym (drop-drop (index_end - count) count mid)
      ∙ ap (drop (index_end - count)) in_front.rest
      ∙ drop-drop (index_end - count) count old
      ∙ ap (λ k. drop k old) split

  mid_between : slice count record_end mid ≡ slice count record_end old
  mid_between =
      let few = in_front.few in
      let split : count + (record_end - count) ≡ record_end = omega arith in
      rw split at (same_part count (record_end - count) mid old (omega (arith, mid_size)) (omega arith) in_front.rest)

  front_words : (new : List ℕ) {y : Result (Unit {0}) Refusal} → ReadChecked mid new y → take count new ≡ take count mid
  front_words new r =
      sym (take-take count record_end new in_front.few) ∙ ap (take count) r.kept.front
      ∙ take-take count record_end mid in_front.few

  -- its record is the one in front of them
  record_is : record_in mid ≡ read_record (take count mid)
  record_is = rw (in_front.first, le-leb count record_end in_front.few)

  pub record_judged : (new : List ℕ) {y : Result (Unit {0}) Refusal} → ReadChecked mid new y → Accepts s old new y
  record_judged new r =
      let same : with_references (record_in mid) ≡ accept s = ap with_references record_is ∙ sym (accept_is s in_front.words) in
      let known = in_front.words in
      record {
        answer = r.judged.answer ∙ ap forget same;
        stands = λ g f. r.judged.stands g (same ∙ f);
        in_front =
            λ ws f. let words : take count mid ≡ ws = cc in ap (λ n. take n new) (sym (count_is ∙ ap length words)) ∙ front_words new r
            ∙ words;
        between = λ ws f.
            let words : take count mid ≡ ws = cc in
            let same : length ws ≡ count = sym (count_is ∙ ap length words) in
            rw same (ap (drop count) r.kept.front ∙ mid_between);
        size = r.kept.size ∙ mid_size;
        beyond = r.kept.back ∙ mid_beyond;
        as_lent = λ n w f. absurd (clash (cc));
      }
