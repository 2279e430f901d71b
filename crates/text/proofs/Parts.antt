-- The names of the words of a line name those words in the text.
use Rattle.std.proofs.Common.{◌≡◌, ℕ, ◌+◌, ◌-◌, ◌<◌, ◌≤◌, map, List, [], ◌∷◌, ◌++◌, length, take, drop, replicate, min, MatchOption, Some, None, Option, sym, refl, ap, ◌∙◌, subst, inl, inr, arith, length-take, length-drop, length-append}
use Rattle.std.specs.Iterator.{YieldsFirst}
use Rattle.std.specs.List.{AllByRecursion}
use Rattle.std.proofs.Math.Seq.{drop-append_seam, take-append_seam}
use Rattle.std.proofs.lemmas.Bool.{cases_lt}
use Rattle.std.proofs.lemmas.List.{length-replicate, drop-drop, drop-take, take-take, take_min, drop_all, length-take-le}
use Rattle.std.proofs.lemmas.Slice.{between_is}
use Rattle.text.specs.declared.words.Name.{Name}
use Rattle.text.specs.Words.{Word, word_in, words_at, line_words, part, name_of, Stands}
use Rattle.text.specs.Spelling.{Spaced}
use Rattle.text.proofs.Spelled.{words_are_spelled}

part-within : (t : List ℕ) (e : ℕ) (w : Name) → w.place + w.length ≤ e → part (take e t) w ≡ part t w
part-within t e w h =
    let m : w.place + (e - w.place) ≡ e = omega arith in
    ap (take w.length) (ap (λ k. drop w.place (take k t)) (sym m) ∙ drop-take w.place (e - w.place) t) ∙ take-take w.length (e - w.place) (drop w.place t) (omega arith)

-- what follows k spaces, in a list whose end bs is
after_spaces : (u bs rest : List ℕ) (p k : ℕ) → drop p u ≡ bs → bs ≡ replicate k 32 ++ rest → drop (p + k) u ≡ rest
after_spaces u bs rest p k is e = sym (drop-drop k p u) ∙ ap (drop k) (is ∙ e) ∙ ap (λ n. drop n (replicate k 32 ++ rest)) (sym (length-replicate k 32)) ∙ drop-append_seam (replicate k 32) rest

after_word : (u w rest : List ℕ) (p : ℕ) → drop p u ≡ w ++ rest → drop (p + length w) u ≡ rest
after_word u w rest p e = sym (drop-drop (length w) p u) ∙ ap (drop (length w)) e ∙ drop-append_seam w rest

stands : (t : List ℕ) (from e end p : ℕ) (ws : List Word) (bs : List ℕ) → e ≤ end → e ≤ length t → from ≤ p → drop p (take e t) ≡ bs → Spaced p ws bs → AllByRecursion (Stands t from end) (map name_of ws) × (map (word_in t) (map name_of ws) ≡ ws)
stands t from e end p [] bs le fits low is s = (tt, refl)
stands t from e end p (w ∷ ws) bs le fits low is (k, rest, eq, pl, word, a, s) =
    let n = length w.bytes in
    let u = take e t in
    let front : drop (p + k) u ≡ w.bytes ++ rest = after_spaces u bs (w.bytes ++ rest) p k is eq in
    let back : drop (p + k + n) u ≡ rest = after_word u w.bytes rest (p + k) front in
    let long : length u - (p + k) ≡ n + length rest = sym (length-drop (p + k) u) ∙ ap length front ∙ length-append w.bytes rest in
    let size : length u ≡ e = length-take-le e t fits in
    let pos : 0 < n = word.0 in
    let own : part t (name_of w) ≡ w.bytes = sym (part-within t e (name_of w) (omega arith)) ∙ ap (λ q. take n (drop q u)) pl ∙ ap (take n) front ∙ take-append_seam w.bytes rest in
    let more = stands t from e end (p + k + n) ws rest le fits (omega arith) back s in
    ((record { after = omega arith; filled = omega arith; within = omega arith; inside = omega arith }, more.0), λ i. record { place = w.place; bytes = own i } ∷ more.1 i)

-- the names of the words of what lies from p up to e, where a line that goes on at `from` and ends at `end` lies in the text
pub named : (t : List ℕ) (from end e p : ℕ) → e ≡ min end (length t) → p ≡ min from e → AllByRecursion (Stands t from end) (map name_of (words_at p (take (e - p) (drop p t)))) × (map (word_in t) (map name_of (words_at p (take (e - p) (drop p t)))) ≡ line_words t from end)
named t from end e p ends begins =
    let cut = between_is t p e in
    let whole : take e t ≡ take end t = ap (λ k. take k t) ends ∙ take_min end t in
    elim (cases_lt e from) [
      | inl past ↦
          let none : words_at p (take (e - p) (drop p t)) ≡ [] = ap (words_at p) (cut ∙ drop_all p (take e t) (omega (arith, length-take e t))) in
          let gone : line_words t from end ≡ [] = ap (words_at from) (drop_all from (take end t) (omega (arith, length-take end t))) in
          subst (λ ws. AllByRecursion (Stands t from end) (map name_of ws) × (map (word_in t) (map name_of ws) ≡ line_words t from end)) (sym none) (tt, sym gone)
      | inr inside ↦
          let here : p ≡ from = omega arith in
          let r = stands t from e end p (words_at p (take (e - p) (drop p t))) (take (e - p) (drop p t)) (omega arith) (omega arith) (omega arith) (sym cut) ((words_are_spelled p (take (e - p) (drop p t)) _).0 refl) in
          (r.0, r.1 ∙ ap (words_at p) (cut ∙ ap (drop p) whole) ∙ (λ i. words_at (here i) (drop (here i) (take end t))))
    ]

-- what comes after the first word of a line
pub goes_on : (t : List ℕ) (from end : ℕ) (w : Name) (ws : List Word) → w.place + w.length ≤ length t → line_words t from end ≡ word_in t w ∷ ws → ws ≡ line_words t (w.place + w.length) end
goes_on t from end w ws inside e = next ((words_are_spelled from (drop from (take end t)) (word_in t w ∷ ws)).0 e)
  where
    next : Spaced from (word_in t w ∷ ws) (drop from (take end t)) → ws ≡ line_words t (w.place + w.length) end
    next (k, rest, eq, pl, word, a, s) =
        let u = take end t in
        let n = length (part t w) in
        let long : n ≡ w.length = length-take-le w.length (drop w.place t) (omega (arith, length-drop w.place t)) in
        let at : from + k + n ≡ w.place + w.length = omega arith in
        let back : drop (from + k + n) u ≡ rest = after_word u (part t w) rest (from + k) (after_spaces u (drop from u) (part t w ++ rest) from k refl eq) in
        sym ((words_are_spelled (from + k + n) rest ws).1 s) ∙ ap (words_at (from + k + n)) (sym back) ∙ (λ i. words_at (at i) (drop (at i) u))

-- the first of the names of a line
pub next_here : (t : List ℕ) (from end : ℕ) (ns rest : List Name) (r : Option Name) → map (word_in t) ns ≡ line_words t from end → AllByRecursion (Stands t from end) ns → YieldsFirst (λ xs. xs) ns r rest → MatchOption r (line_words t from end ≡ []) (λ w. (line_words t from end ≡ word_in t w ∷ line_words t (w.place + w.length) end) × (from < w.place + w.length) × (w.place + w.length ≤ end) × (w.place + w.length ≤ length t))
next_here t from end ns rest None words all e = sym words ∙ ap (map (word_in t)) e.0
next_here t from end ns rest (Some w) words all e =
    let s : Stands t from end w = (subst (AllByRecursion (Stands t from end)) e all).0 in
    let l = sym words ∙ ap (map (word_in t)) e in
    (l ∙ ap (λ ws. word_in t w ∷ ws) (goes_on t from end w _ s.inside l), omega arith, s.within, s.inside)
