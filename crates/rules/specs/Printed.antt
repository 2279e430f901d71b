-- How terms, kinds and refusals are printed, byte by byte.
use Rattle.std.specs.Prelude.{ℕ, List, ◌++◌, codes, decimal}
use Rattle.rules.specs.declared.term.Term.{Term}
use Rattle.rules.specs.declared.term.Term.TheVariants.{Constant, Variable}
use Rattle.rules.specs.declared.term.Kind.{Kind}
use Rattle.rules.specs.declared.term.Kind.TheVariants.{Functional, Equality}
use Rattle.rules.specs.declared.refusal.Layer.{Layer}
use Rattle.rules.specs.declared.refusal.Refusal.{Refusal}
use Rattle.rules.specs.declared.refusal.Layer.TheVariants.{Reader, Book, Join, Trial, Report}

-- a constant as its number, a variable as `$` and its number
abbrev pub term_name : Term → List ℕ
term_name (Constant c) = decimal c
term_name (Variable v) = codes "$" ++ decimal v

abbrev pub kind_name : Kind → List ℕ
kind_name Functional = codes "functional"
kind_name Equality = codes "equality"

abbrev pub layer_name : Layer → List ℕ
layer_name Reader = codes "reader"
layer_name Book = codes "book"
layer_name Join = codes "join"
layer_name Trial = codes "trial"
layer_name Report = codes "report"

-- its number, who refused, and the place
abbrev pub refusal_line : Refusal → List ℕ
refusal_line r = codes "refused " ++ (decimal r.number ++ (codes " " ++ (layer_name r.layer ++ (codes " " ++ decimal r.place))))
