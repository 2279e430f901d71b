-- The worked cases, as one list.
use Rattle.std.specs.Prelude.{ℕ, ◌+◌, List, [], ◌∷◌, Some, None, Option}
use Rattle.rules.specs.declared.term.Term.{Term}
use Rattle.rules.specs.declared.term.Term.TheVariants.{Constant, Variable}
use Rattle.rules.specs.declared.term.Kind.TheVariants.{Functional, Equality}
use Rattle.rules.specs.Rules.{Relation, Pattern, Rule}
use Rattle.rules.specs.Books.{BookMeaning, base}
use Rattle.law.specs.declared.outcome.Stop.TheVariants.{Spent, Rest}
use Rattle.law.specs.declared.outcome.Verdict.{Verdict}
use Rattle.law.specs.declared.outcome.Verdict.TheVariants.{Follows, Fails}
use Rattle.law.specs.Calls.{Answer, Made}

-- a book and a target, and what every trial of it comes to
pub record Case : Type 0 where
  pub book : BookMeaning
  pub target : Rule
  pub verdict : Verdict
  -- the merges made at rest, or none where every trial clashes
  pub merges : Option ℕ
  -- the counter rows, where it fails
  pub rows : Relation
  -- advances by so many merges, and what they answer
  pub limits : List ℕ
  pub answers : List Answer

-- a functional rule with one right variable, and an equality rule with one pair
abbrev pub functional : Pattern → List ℕ → ℕ → Rule
functional p left right = record { kind = Functional; pattern = p; left = left; pairs = (Variable right, Variable right) ∷ [] }

abbrev pub equality : Pattern → Term → Term → Rule
equality p x y = record { kind = Equality; pattern = p; left = []; pairs = (x, y) ∷ [] }

abbrev pub book : ℕ → List Rule → BookMeaning
book width rules = record { width = width; rules = rules }

abbrev pub row2 : {A : Type 0} → A → A → List A
row2 x y = x ∷ y ∷ []

abbrev pub row3 : {A : Type 0} → A → A → A → List A
row3 x y z = x ∷ y ∷ z ∷ []

-- what symbol v shows as where its group has no constant
abbrev pub symbol : ℕ → ℕ
symbol v = base + v

-- press is the constant 0 and dock the constant 1; b, w and v are the variables 0, 1 and 2
abbrev pub press : List Term
press = row3 (Variable 0) (Constant 0) (Variable 1)

abbrev pub dock : List Term
dock = row3 (Variable 0) (Constant 1) (Variable 2)

-- one press weight to a bale
abbrev pub press_book : BookMeaning
press_book = book 3 (functional (press ∷ []) (0 ∷ []) 1 ∷ [])

-- a bale's press weight and dock weight agree
abbrev pub agreeing_book : BookMeaning
agreeing_book = book 3 (equality (press ∷ dock ∷ []) (Variable 1) (Variable 2) ∷ [])

-- n and m are the variables 0 and 1
abbrev pub there_and_back : Pattern
there_and_back = row2 (Variable 0) (Variable 1) ∷ row2 (Variable 1) (Variable 0) ∷ []

abbrev pub columns : Pattern
columns = row3 (Variable 0) (Variable 1) (Variable 2) ∷ []

-- {b press w} b → w gives {b press w, b dock v} b → w
abbrev pub one_press_weight : Case
one_press_weight =
    record {
      book = press_book;
      target = functional (press ∷ dock ∷ []) (0 ∷ []) 1;
      verdict = Follows;
      merges = Some 1;
      rows = [];
      limits = 1 ∷ 1 ∷ [];
      answers = Made 1 Spent ∷ Made 0 Rest ∷ [];
    }

-- and not {b press w, b dock v} b → v
abbrev pub dock_weight_open : Case
dock_weight_open =
    record {
      book = press_book;
      target = functional (press ∷ dock ∷ []) (0 ∷ []) 2;
      verdict = Fails;
      merges = Some 1;
      rows = row3 (symbol 0) 0 (symbol 1) ∷ row3 (symbol 0) 1 (symbol 2) ∷ row3 (symbol 0) 0 (symbol 1) ∷ row3 (symbol 0) 1 (symbol 34) ∷ [];
      limits = 5 ∷ 5 ∷ [];
      answers = Made 1 Rest ∷ Made 0 Rest ∷ [];
    }

-- {b press w, b dock v} w = v gives {b press w, b dock v} b → v
abbrev pub weights_that_agree : Case
weights_that_agree =
    record {
      book = agreeing_book;
      target = functional (press ∷ dock ∷ []) (0 ∷ []) 2;
      verdict = Follows;
      merges = Some 3;
      rows = [];
      limits = 0 ∷ 2 ∷ 2 ∷ [];
      answers = Made 0 Spent ∷ Made 2 Spent ∷ Made 1 Rest ∷ [];
    }

-- and not {b press w} b → w
abbrev pub agreement_gives_no_key : Case
agreement_gives_no_key =
    record {
      book = agreeing_book;
      target = functional (press ∷ []) (0 ∷ []) 1;
      verdict = Fails;
      merges = Some 0;
      rows = row3 (symbol 0) 0 (symbol 1) ∷ row3 (symbol 0) 0 (symbol 33) ∷ [];
      limits = 1 ∷ [];
      answers = Made 0 Rest ∷ [];
    }

-- {a b} a → b gives {a 1, a 2} nothing → a, since 1 and 2 clash
abbrev pub two_constants_for_one : Case
two_constants_for_one =
    record {
      book = book 2 (functional (row2 (Variable 0) (Variable 1) ∷ []) (0 ∷ []) 1 ∷ []);
      target = functional (row2 (Variable 0) (Constant 1) ∷ row2 (Variable 0) (Constant 2) ∷ []) [] 0;
      verdict = Follows;
      merges = None;
      rows = [];
      limits = [];
      answers = [];
    }

-- {n m, m n} n → m gives {n n, n m, m n} n = m
abbrev pub two_cycle : Case
two_cycle =
    record {
      book = book 2 (functional there_and_back (0 ∷ []) 1 ∷ []);
      target = equality (row2 (Variable 0) (Variable 0) ∷ there_and_back) (Variable 0) (Variable 1);
      verdict = Follows;
      merges = Some 1;
      rows = [];
      limits = 1 ∷ [];
      answers = Made 1 Spent ∷ [];
    }

-- {n n} nothing → n does not give {n m, m n} n → m
abbrev pub one_loop : Case
one_loop =
    record {
      book = book 2 (functional (row2 (Variable 0) (Variable 0) ∷ []) [] 0 ∷ []);
      target = functional there_and_back (0 ∷ []) 1;
      verdict = Fails;
      merges = Some 0;
      rows = row2 (symbol 0) (symbol 1) ∷ row2 (symbol 1) (symbol 0) ∷ row2 (symbol 0) (symbol 33) ∷ row2 (symbol 33) (symbol 0) ∷ [];
      limits = 1 ∷ [];
      answers = Made 0 Rest ∷ [];
    }

-- keys 0 → 1 and 1 → 2 give 0 → 2
abbrev pub chained_keys : Case
chained_keys =
    record {
      book = book 3 (functional columns (0 ∷ []) 1 ∷ functional columns (1 ∷ []) 2 ∷ []);
      target = functional columns (0 ∷ []) 2;
      verdict = Follows;
      merges = Some 2;
      rows = [];
      limits = 1 ∷ 1 ∷ 1 ∷ [];
      answers = Made 1 Spent ∷ Made 1 Spent ∷ Made 0 Rest ∷ [];
    }

abbrev pub cases : List Case
cases =
    one_press_weight ∷ dock_weight_open ∷ weights_that_agree ∷ agreement_gives_no_key ∷
    two_constants_for_one ∷ two_cycle ∷ one_loop ∷ chained_keys ∷ []
