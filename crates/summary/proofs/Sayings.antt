-- What is said of what was read.
use Rattle.std.proofs.Common.{◌≡◌, ℕ, ◌-◌, List, map, length, take, replicate, Ok, Err, Result, sym, ap, ◌∙◌, subst}
use lib.Seq.{take-append_seam}
use Rattle.std.proofs.lemmas.List.{length-map}
use Rattle.text.specs.declared.words.Name.{Name}
use Rattle.text.specs.Words.{name_of, Word}
use Rattle.sheets.specs.Reads.{sheet_meaning}
use Rattle.reader.specs.declared.fault.ReadFault.{ReadFault}
use Rattle.reader.specs.declared.desk.Sizes.{Sizes}
use Rattle.reader.specs.Format.{Memo, read_text}
use Rattle.reader.specs.Lists.{words_in}
use Rattle.reader.specs.Reads.{Lengths, Reads, rooms_in, no_name, padded}
use Rattle.spelling.specs.Draft.{put_down}
use Rattle.spelling.specs.Book.{book_of, targets_of}
use Rattle.spelling.specs.Laws.{Told}
use Rattle.summary.specs.Summary.{Said, Summed, summary_text, refused_text}

-- the first names are those that were read
names_front : (known : List Word) (size n : ℕ) (ns : List Name) → n ≡ length known → ns ≡ padded size no_name (map name_of known) → take n ns ≡ map name_of known
names_front known size n ns e f =
    let rest = replicate (size - length (map name_of known)) no_name in
    let a : n ≡ length (map name_of known) = e ∙ sym (length-map known name_of) in
    (λ i. take (a i) (f i)) ∙ take-append_seam (map name_of known) rest

pub said_read : (text : List ℕ) (n : Lengths) (s : Sizes) (rs ts : List ℕ) (ns : List Name) (bytes : List ℕ) →
    Reads text n (read_text (rooms_in n) text) (Ok s) rs ts ns → Told text n s rs ts ns →
    bytes ≡ summary_text (sheet_meaning rs) (sheet_meaning ts) (words_in text (take s.names ns)) → Said text (read_text (rooms_in n) text) bytes
said_read text n s rs ts ns bytes reads told e =
    let d = told.draft in
    let known = (put_down d).names in
    let opens = told.opens (book_of d) (targets_of d) known told.spelled in
    let laid = told.laid_out (book_of d) (targets_of d) known told.spelled in
    let front = names_front known n.names s.names ns (told.holds d told.spells).many.2 laid.names in
    let a : sheet_meaning rs ≡ book_of d = opens.0.means in
    let b : sheet_meaning ts ≡ targets_of d = opens.1.means in
    let c : words_in text (take s.names ns) ≡ known = ap (words_in text) front ∙ laid.parts in
    let says : bytes ≡ summary_text (book_of d) (targets_of d) known = e ∙ (λ i. summary_text (a i) (b i) (c i)) in
    let sum : Summed text bytes = record { book = book_of d; targets = targets_of d; names = known; spelled = told.spelled; says = says } in
    subst (λ (o : Result Memo ReadFault). Said text o bytes) (sym reads.1) sum

pub said_refused : (text : List ℕ) (n : Lengths) (f : ReadFault) (rs ts : List ℕ) (ns : List Name) (bytes : List ℕ) →
    Reads text n (read_text (rooms_in n) text) (Err f) rs ts ns → bytes ≡ refused_text text f → Said text (read_text (rooms_in n) text) bytes
said_refused text n f rs ts ns bytes reads e = subst (λ (o : Result Memo ReadFault). Said text o bytes) (sym reads.0) e
