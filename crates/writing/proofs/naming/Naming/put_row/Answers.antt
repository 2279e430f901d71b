use Rattle.std.proofs.Common.{◌≡◌, ℕ, List, ◌∷◌, ◌++◌, map, sym, refl, ap, ◌∙◌, rules}
use Rattle.text.specs.declared.words.Name.{Name}
use Rattle.pieces.specs.declared.piece.Piece.{Piece}
use Rattle.pieces.specs.Lines.{spell, after, line_of}
use Rattle.pieces.proofs.Steps.{then-puts, exit_puts, as_puts}
use Rattle.writing.specs.Reports.{entry_piece, row_line}
use Rattle.writing.proofs.naming.Naming.put_row.Goals as goal
use Rattle.writing.proofs.naming.Naming.put_row.Goals.{in-Some+in_ok-put_piece+in-None, in_default}

first_of : (text : List ℕ) (names : List Name) (row rest : List ℕ) (e : ℕ) (p : Piece) → p ≡ entry_piece names e → row ≡ e ∷ rest → spell text p ++ after text (map (entry_piece names) rest) ≡ line_of text (row_line names row)
first_of text names row rest e p is begins = ap (λ q. spell text q ++ after text (map (entry_piece names) rest)) is ∙ sym (ap (λ r. line_of text (row_line names r)) begins)

next_of : (text : List ℕ) (names : List Name) (left rest : List ℕ) (e : ℕ) (p : Piece) → p ≡ entry_piece names e → left ≡ e ∷ rest → 32 ∷ (spell text p ++ after text (map (entry_piece names) rest)) ≡ after text (map (entry_piece names) left)
next_of text names left rest e p is begins = ap (λ q. 32 ∷ (spell text q ++ after text (map (entry_piece names) rest))) is ∙ sym (ap (λ r. after text (map (entry_piece names) r)) begins)

pub returns-in_err-put_byte : goal.returns-in_err-put_byte
returns-in_err-put_byte g c =
    let text = c.args.self.now.text.now in
    let names = c.args.self.now.names.now in
    let same : c.next.new.self ≡ c.into_iter-e-iterator.result = search rules in
    as_puts (first_of text names _ _ c.in-Some.first _ c.piece.ensures (sym c.of_row-entries.ensures ∙ c.in-Some.ensures.steps ∙ ap (λ xs. c.in-Some.first ∷ xs) same))
    (then-puts _ c.in_ok-put_piece.ensures (c.loop-e.invariant.2 _ _ (as_puts (next_of text names _ _ c.in-Some-e.e _ refl c.in-Some-e.ensures.steps)
    (exit_puts _ c.from_residual-in_err-put_byte.ensures.1 _ c.in_err-put_byte.ensures))))

pub returns-in_err-put_piece-2 : goal.returns-in_err-put_piece-2
returns-in_err-put_piece-2 g c =
    let text = c.args.self.now.text.now in
    let names = c.args.self.now.names.now in
    let same : c.next.new.self ≡ c.into_iter-e-iterator.result = search rules in
    as_puts (first_of text names _ _ c.in-Some.first _ c.piece.ensures (sym c.of_row-entries.ensures ∙ c.in-Some.ensures.steps ∙ ap (λ xs. c.in-Some.first ∷ xs) same))
    (then-puts _ c.in_ok-put_piece.ensures (c.loop-e.invariant.2 _ _ (as_puts (next_of text names _ _ c.in-Some-e.e _ c.piece-in-loop-e.ensures c.in-Some-e.ensures.steps)
    (then-puts _ c.in_ok-put_byte.ensures (exit_puts _ c.from_residual-in_err-put_piece-2.ensures.1 _ c.in_err-put_piece-2.ensures)))))

pub loop-e-preserved : goal.loop-e-preserved
loop-e-preserved g c =
    let text = c.args.self.now.text.now in
    let names = c.args.self.now.names.now in (
      tt,
      tt,
      λ r b p. c.loop-e.invariant.2 r b (as_puts (next_of text names _ _ c.in-Some-e.e _ c.piece-in-loop-e.ensures c.in-Some-e.ensures.steps)
          (then-puts _ c.in_ok-put_byte.ensures (then-puts _ c.in_ok-put_piece-2.ensures p))),
    )

pub returns : goal.returns
returns g c = elim c.match-next.branch [
  | in-Some+in_ok-put_piece+in-None w ↦
      let text = c.args.self.now.text.now in
      let names = c.args.self.now.names.now in
      let last = c.put_byte-2.ensures in
      let same : c.next.new.self ≡ w.into_iter-e-iterator.result = search rules in
      as_puts (first_of text names _ _ w.in-Some.first _ w.piece.ensures (sym c.of_row-entries.ensures ∙ w.in-Some.ensures.steps ∙ ap (λ xs. w.in-Some.first ∷ xs) same))
      (then-puts _ w.in_ok-put_piece.ensures (w.loop-e.invariant.2 _ _ (as_puts (sym (ap (λ xs. after text (map (entry_piece names) xs)) w.in-None.ensures.steps.0)) (rw w.out-is at last))))
  | in_default w ↦
      let last = c.put_byte-2.ensures in
      as_puts (sym (ap (λ row. line_of c.args.self.now.text.now (row_line c.args.self.now.names.now row)) (sym c.of_row-entries.ensures ∙ w.in_default.ensures.steps.0))) (rw w.out-is at last)
]
