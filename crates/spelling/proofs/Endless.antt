-- Reading with endless room.
use Rattle.std.proofs.Common.{◌≡◌, ℕ, ◌+◌, true, false, cond, List, [], ◌∷◌, ◌++◌, Ok, refl, ap, ◌∙◌}
use Rattle.text.specs.Words.{Word, is_variable}
use Rattle.rules.specs.Books.{base}
use Rattle.reader.specs.declared.desk.Counting.{Counting}
use Rattle.reader.specs.declared.desk.Counting.TheVariants as counting
use Rattle.reader.specs.declared.desk.Part.{Part}
use Rattle.reader.specs.declared.desk.Part.TheVariants as parts
use Rattle.reader.specs.Format.{endless, Rooms, Memo, then, pushed, seen_in, seen_with, number_of, with_width, with_names, with_vars, in_targets, put_in, put_word, put_term, put_terms, put_count}
use Rattle.spelling.specs.Draft.{add, extend, extend_in, put, puts, put_number}
use Rattle.spelling.specs.Room.{unbounded}

abbrev pub E : Rooms
E = unbounded

in_e : (m : Memo) (x : ℕ) (p : Part) → put_in E m x p ≡ Ok (extend_in m (x ∷ []) p)
in_e m x parts.Rules = refl
in_e m x parts.Targets = refl

pub word_e : (m : Memo) (x : ℕ) → put_word E m x ≡ Ok (extend m (x ∷ []))
word_e m x = in_e m x m.part

seen-e : (seen : List Word) (w : Word) → seen_with endless seen w ≡ Ok (add seen w)
seen-e seen w = elim (seen_in seen w) as (λ t. cond t (Ok seen) (pushed endless seen w) ≡ Ok (cond t seen (seen ++ w ∷ []))) [ true ↦ refl | false ↦ refl ]

term_e : (m : Memo) (w : Word) → put_term E m w ≡ Ok (put m w)
term_e m w =
    let v = with_vars m (add m.vars w) in
    let n = with_names m (add m.names w) in
    let a = ap (λ o. then o (λ vs. put_word E (with_vars m vs) (base + number_of m.vars w))) (seen-e m.vars w) ∙ word_e v (base + number_of m.vars w) in
    let b = ap (λ o. then o (λ ns. put_word E (with_names m ns) (number_of m.names w))) (seen-e m.names w) ∙ word_e n (number_of m.names w) in
    elim (is_variable w.bytes) as (λ t. cond t (then (seen_with endless m.vars w) (λ vs. put_word E (with_vars m vs) (base + number_of m.vars w))) (then (seen_with endless m.names w) (λ ns. put_word E (with_names m ns) (number_of m.names w))) ≡ Ok (cond t (extend v ((base + number_of m.vars w) ∷ [])) (extend n (number_of m.names w ∷ [])))) [ true ↦ a | false ↦ b ]

pub terms_e : (m : Memo) (ws : List Word) → put_terms E m ws ≡ Ok (puts m ws)
terms_e m [] = refl
terms_e m (w ∷ ws) = ap (λ o. then o (λ n. put_terms E n ws)) (term_e m w) ∙ terms_e (put m w) ws

pub count_e : (m : Memo) (n : ℕ) (c : Counting) → put_count E m n c ≡ Ok (put_number m n c)
count_e m n counting.Width = word_e (with_width m n) n
count_e m n counting.Rules = word_e m n
count_e m n counting.Targets = ap (λ o. then o (λ k. put_word E k n)) (word_e (in_targets m) m.width) ∙ word_e (extend (in_targets m) (m.width ∷ [])) n
count_e m n counting.Rows = word_e (with_vars m []) n
count_e m n counting.Left = word_e m n
count_e m n counting.Right = word_e m n
count_e m n counting.Pairs = ap (λ o. then o (λ k. put_word E k n)) (word_e m 0) ∙ word_e (extend m (0 ∷ [])) n
