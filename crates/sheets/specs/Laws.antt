-- What holds of sheets: laid out and read back, and where the first fault stands.
use Rattle.std.specs.Prelude.{◌≡◌, ℕ, ◌+◌, ◌<◌, ◌≤◌, List, ◌++◌, length, take, drop, Ok, Err}
use Rattle.rules.specs.Books.{BookMeaning, WellFormedBook}
use Rattle.rules.specs.declared.fault.BookFault.{BookFault}
use Rattle.sheets.specs.Walk.{Out, sheet_end}
use Rattle.sheets.specs.Layout.{layout}
use Rattle.sheets.specs.Reads.{empty_book, sheet_meaning}

-- a book that a sheet can hold
pub record Fitting (b : BookMeaning) : Type 0 where
  pub well : WellFormedBook b
  pub few : length b.rules ≤ 256

-- the words begin with such a book, written down
pub record Written (words : List ℕ) : Type 0 where
  pub book : BookMeaning
  pub rest : List ℕ
  pub fitting : Fitting book
  pub begins : words ≡ layout book ++ rest

-- words that pass the check: they are the book that they mean, written down, and words that are not read
pub record Passing (words : List ℕ) : Type 0 where
  pub walked : sheet_end words ≡ Ok (length (layout (sheet_meaning words)))
  pub fitting : Fitting (sheet_meaning words)
  pub begins : words ≡ layout (sheet_meaning words) ++ drop (length (layout (sheet_meaning words))) words

-- words that fail the check with this fault
pub record Failing (words : List ℕ) (f : BookFault) : Type 0 where
  pub walked : sheet_end words ≡ Err f
  pub unwritten : Written words → ⊥
  pub empty : sheet_meaning words ≡ empty_book
  pub inside : f.place ≤ length words
  -- the words before its place have no fault but that they end there
  pub front : sheet_end (take f.place words) ≡ Err f
  -- words that are the same up to and with the word at its place fail with it, whatever follows
  pub always : f.place < length words → (other : List ℕ) → take (f.place + 1) other ≡ take (f.place + 1) words → (sheet_end other ≡ Err f) × (Written other → ⊥)

-- a book that is written down passes the check, whatever follows it, and is what the sheet means
abbrev pub ReadBack : List ℕ → Out (Unit {0}) → Type 0
ReadBack words r = (b : BookMeaning) (rest : List ℕ) → Fitting b → words ≡ layout b ++ rest → (r ≡ Ok tt) × (sheet_meaning words ≡ b)

-- what words open as: the book that is written at their front, or the empty one
pub record Opens (words : List ℕ) (m : BookMeaning) : Type 0 where
  pub fitting : Fitting m
  pub as_written : (b : BookMeaning) (rest : List ℕ) → Fitting b → words ≡ layout b ++ rest → m ≡ b
  pub begins : Written words → words ≡ layout m ++ drop (length (layout m)) words
  pub as_empty : (Written words → ⊥) → m ≡ empty_book

-- the same of all words
abbrev pub WrittenPasses : Type 0
WrittenPasses = (b : BookMeaning) (rest : List ℕ) → Fitting b → (sheet_end (layout b ++ rest) ≡ Ok (length (layout b))) × (sheet_meaning (layout b ++ rest) ≡ b)

abbrev pub PassingIsWritten : Type 0
PassingIsWritten = (words : List ℕ) (e : ℕ) → sheet_end words ≡ Ok e → (e ≡ length (layout (sheet_meaning words))) × Passing words

abbrev pub FailingIsFirst : Type 0
FailingIsFirst = (words : List ℕ) (f : BookFault) → sheet_end words ≡ Err f → Failing words f
