-- The refusal that the fault of a book is.
use Rattle.rules.specs.declared.refusal.Refusal.{Refusal}
use Rattle.rules.specs.declared.refusal.Layer.TheVariants.{Book}
use Rattle.rules.specs.declared.fault.BookFault.{BookFault}

abbrev pub book_refusal : BookFault → Refusal
book_refusal f = record { number = 7; layer = Book; place = f.place }
