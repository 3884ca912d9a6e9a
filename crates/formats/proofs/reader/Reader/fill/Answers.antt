use Rattle.std.proofs.Common.{ℕ, ◌+◌, ◌<◌, [], length, take, sym, ap, ◌∙◌, subst, arith, length-set}
use Rattle.std.specs.List.{AllByRecursion}
use Rattle.std.proofs.lemmas.List.{take_more_set}
use Rattle.std.proofs.ByRecursion.{All-push}
use Rattle.formats.specs.Readers.{rest}
use Rattle.formats.specs.Sheets.{next_in, lines_in}
use Rattle.formats.proofs.Fills.{said_more}
use Rattle.formats.proofs.Moves.{went_more}
use Rattle.formats.proofs.reader.Reader.fill.Goals as goal

pub loop-place-preserved : goal.loop-place-preserved
loop-place-preserved g c =
    let K = g.K.Kind in
    let kind = c.args.kind.now in
    let next = next_in K.word (K.columns kind) (K.says kind) in
    let xs = c.loop-place.place-items in
    let k = c.loop-place.place-index in
    let x = c.in_ok-place.field-0 in
    let got = c.in_ok-place.ensures in
    let inside : c.loop-place.place-index < length c.loop-place.place-items = omega arith in
    record {
      said = said_more next K.meaning xs k x c.loop-place.self c.read_line.new.self inside got.0 got.2
          ∙ c.loop-place.invariant.said
          ∙ ap (λ (n : ℕ). lines_in next n (c.args.self.now.lines + 1) (rest c.args.self.now) []) (sym (length-set xs k x));
      sound = subst (AllByRecursion (K.Sound kind)) (sym (take_more_set xs k x inside)) (All-push (K.Sound kind) (take k xs) x c.loop-place.invariant.sound got.1);
      went = went_more k c.args.self.now c.loop-place.self c.read_line.new.self c.loop-place.invariant.went got.2;
    }
