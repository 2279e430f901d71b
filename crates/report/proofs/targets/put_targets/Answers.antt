use Rattle.std.proofs.Common.{◌≡◌, ◌+◌, ◌-◌, ◌<◌, [], ◌∷◌, ◌++◌, length, sym, refl, ap, ◌∙◌, subst, arith}
use Rattle.std.proofs.lemmas.List.{length-append}
use Rattle.pieces.specs.Put.{size}
use Rattle.pieces.proofs.Steps.{same_trans, then-put, as_put}
use Rattle.writing.specs.Reports.{target_text, target_texts, first_line, parts}
use Rattle.writing.specs.Fitting.{whole}
use Rattle.writing.specs.Filling.{Past}
use Rattle.trial.specs.Tells.{told}
use Rattle.outcomes.specs.Laws.{outcome_of}
use Rattle.report.proofs.Tried.{due-ends}
use Rattle.writing.proofs.Parted.{whole-push, past_at}
use Rattle.report.proofs.Pushed.{length-texts, texts_append, due-append, all_due, parts-split}
use Rattle.report.proofs.Shorts.{put_down, too_short, refused_at}
use Rattle.report.proofs.targets.put_targets.Goals as goal

pub returns-in_err-short_at : goal.returns-in_err-short_at
returns-in_err-short_at g c =
    let b = g.B.Book.meaning c.args.book.now in
    let ts = g.T.Book.meaning c.args.targets.now in
    let text = c.args.naming.now.text.now in
    let names = c.args.naming.now.names.now in
    let many = length ts.rules in
    let a = c.args.out.now in
    let put = c.put_count.ensures in
    let failed = too_short a c.put_count.new.out (first_line c.count-count.result) 0 c.put_count.result _ put c.in_err-short_at.ensures in
    record {
      same = put.same;
      fills = λ w.
          (let all = all_due b ts many 0 many (omega arith) (due-ends b (g.B.Book.well c.args.book.now) ts (g.T.Book.well c.args.targets.now) w) in
          let is : c.count-count.result ≡ length all.0 = c.count-count.ensures ∙ sym all.1 in
          record {
            outcomes = all.0;
            long = all.1;
            each = all.2;
            fills = refused_at a c.put_count.new.out (parts text names all.0) 0 _ c.from_residual.result c.from_residual.ensures.1 failed.1 put.same
                (past_at a [] (first_line (length all.0)) (target_texts text names 1 all.0) 0 refl (omega (arith, c.requires))
                (omega (arith, failed.0, ap (λ n. length (first_line n)) is)));
          });
    }

pub loop-i-preserved : goal.loop-i-preserved
loop-i-preserved g c =
    let b = g.B.Book.meaning c.args.book.now in
    let ts = g.T.Book.meaning c.args.targets.now in
    let text = c.args.naming.now.text.now in
    let names = c.args.naming.now.names.now in
    let i = c.loop-i.i in
    let o = outcome_of (told c.in_ok-judged.judged.finished) in
    let lines = target_text text names (i + 1) o in
    let put = put_down c.loop-i.out c.put_target.new.out lines (i + 1) c.put_target.result _ c.put_target.ensures c.in_ok-short_at-2.ensures in
    let same = c.loop-i.invariant.0 in (
      same_trans same c.put_target.ensures.same,
      λ w.
          (let so_far = c.loop-i.invariant.1 w in
          let os = so_far.0 in
          let long = so_far.1 in
          let texts : whole (target_texts text names 1 (os ++ o ∷ [])) ≡ whole (target_texts text names 1 os) ++ lines =
          ap whole (texts_append text names 1 (i + 1) os (o ∷ []) (omega arith)) ∙ whole-push (target_texts text names 1 os) lines in (
            os ++ o ∷ [],
            omega (arith, length-append os (o ∷ [])),
            due-append b ts 0 i os (o ∷ []) (omega arith) so_far.2 (c.in_ok-judged.ensures, tt),
            as_put (sym texts) (then-put same so_far.3 put),
          )),
    )

pub returns-in_err-short_at-2 : goal.returns-in_err-short_at-2
returns-in_err-short_at-2 g c =
    let b = g.B.Book.meaning c.args.book.now in
    let ts = g.T.Book.meaning c.args.targets.now in
    let text = c.args.naming.now.text.now in
    let names = c.args.naming.now.names.now in
    let many = length ts.rules in
    let i = c.loop-i.i in
    let o = outcome_of (told c.in_ok-judged.judged.finished) in
    let lines = target_text text names (i + 1) o in
    let line = first_line c.count-count.result in
    let a = c.args.out.now in
    let first = put_down a c.put_count.new.out line 0 c.put_count.result _ c.put_count.ensures c.in_ok-short_at.ensures in
    let failed = too_short c.loop-i.out c.put_target.new.out lines (i + 1) c.put_target.result _ c.put_target.ensures c.in_err-short_at-2.ensures in
    let h : i < many = omega (arith, c.count-count.ensures) in
    let before_same = c.loop-i.invariant.0 in
    let same = same_trans c.put_count.ensures.same (same_trans before_same c.put_target.ensures.same) in
    record {
      same = same;
      fills = λ w.
          (let so_far = c.loop-i.invariant.1 w in
          let os = so_far.0 in
          let long = so_far.1 in
          let rest = all_due b ts many (i + 1) (many - (i + 1)) (omega arith) (due-ends b (g.B.Book.well c.args.book.now) ts (g.T.Book.well c.args.targets.now) w) in
          let all : length (os ++ o ∷ rest.0) ≡ many = omega (arith, length-append os (o ∷ rest.0), rest.1) in
          let before = target_texts text names 1 os in
          let sizes : size c.loop-i.out ≡ size a = before_same.long ∙ c.put_count.ensures.same.long in
          let more = length-append line (whole before) in
          record {
            outcomes = os ++ o ∷ rest.0;
            long = all;
            each = due-append b ts 0 i os (o ∷ rest.0) (omega arith) so_far.2 (c.in_ok-judged.ensures, rest.2);
            fills = refused_at a c.put_target.new.out (parts text names (os ++ o ∷ rest.0)) (i + 1) _ c.from_residual-in_err-short_at-2.result c.from_residual-in_err-short_at-2.ensures.1 failed.1 same
                (subst (λ ps. Past a ps (i + 1)) (parts-split text names c.count-count.result (i + 1) os o rest.0 (c.count-count.ensures ∙ sym all) (omega arith))
                (past_at a (line ∷ before) lines (target_texts text names (i + 1 + 1) rest.0) (i + 1)
                (omega (arith, length-texts text names 1 os))
                (omega (arith, first.used, so_far.3.fits, c.put_count.ensures.same.long))
                (omega (arith, failed.0, first.used, so_far.3.used))));
          });
    }

pub returns : goal.returns
returns g c =
    let text = c.args.naming.now.text.now in
    let names = c.args.naming.now.names.now in
    let first = put_down c.args.out.now c.put_count.new.out (first_line c.count-count.result) 0 c.put_count.result _ c.put_count.ensures c.in_ok-short_at.ensures in
    let same = c.loop-i.invariant.0 in
    record {
      same = same_trans c.put_count.ensures.same same;
      fills = λ w.
          (let so_far = c.loop-i.invariant.1 w in
          let os = so_far.0 in
          let long = so_far.1 in
          let count : c.count-count.result ≡ length os = omega arith in
          record {
            outcomes = os;
            long = sym count ∙ c.count-count.ensures;
            each = so_far.2;
            fills = record {
              same = same_trans c.put_count.ensures.same same;
              cases = as_put (ap (λ n. first_line n ++ whole (target_texts text names 1 os)) count) (then-put c.put_count.ensures.same first so_far.3);
            };
          });
    }
