use Rattle.std.proofs.Common.{◌≡◌, [], ◌++◌, take, refl, sym, ap, subst, ◌∙◌, rules}
use Rattle.std.specs.Io.KnownBytes.{Consumes}
use Rattle.std.proofs.KnownBytes.{Consumes-nil, Consumes-trans}
use Rattle.vectors.specs.Reading.{read_bytes, reading_of, at_start, in_pieces}
use Rattle.streams.specs.Sizes.{bytes_read}
use Rattle.replay.specs.Agrees.{agrees}
use Rattle.replay.proofs.replayed.Goals.{in-Ok, in-Err}
use Rattle.replay.proofs.replayed.Goals as goal

pub loop-turn-init : goal.loop-turn-init
unfolding read_bytes
loop-turn-init g c = record {
  chunk = refl;
  size = search rules;
  so_far = ([], Consumes-nil _, rw c.start-reader.ensures refl);
}

pub loop-turn-preserved : goal.loop-turn-preserved
loop-turn-preserved g c =
    let seen = c.loop-turn.invariant.so_far in
    let n = c.match-read_input.n in
    let buffer = c.read_input.new.buffer in
    let all : n ≡ bytes_read c.read_input.result =
    elim c.match-read_input.branch [ in-Ok w ↦ rw w.in-Ok.is w.n-is | in-Err w ↦ rw w.in-Err.is w.n-is ] in
    let piece = take n buffer in
    let before = g.R.Read.remaining c.loop-turn.list in
    let after = g.R.Read.remaining c.read_input.new.reader in
    record {
      chunk = search rules;
      size = c.fed_all-reader.ensures.within;
      so_far = (
        seen.0 ++ piece,
        Consumes-trans _ _ _ _ _ seen.1 (subst (λ k. Consumes before after (take k buffer)) (sym all) c.read_input.ensures.bytes),
        c.fed_all-reader.ensures.reads ∙ ap (λ s. read_bytes agrees s piece) seen.2
            ∙ sym (in_pieces agrees (reading_of at_start []) seen.0 piece),
      );
    }
