-- One put after another is one put of both.
use Rattle.std.proofs.Common.{◌≡◌, ℕ, ◌≤◌, List, [], ◌++◌, IsErrAnd, Ok, Err, Result, sym, refl, ap, ◌∙◌, subst, arith}
use Rattle.std.proofs.lemmas.List.{append_assoc, append-nil, length-append}
use Rattle.pieces.specs.declared.output.Output.{Output}
use Rattle.pieces.specs.declared.output.Short.{Short}
use Rattle.pieces.specs.Put.{written, size, Same, Put, Puts}

pub same_refl : (a : Output) → Same a a
same_refl a = record { lent = refl; long = refl }

pub same_trans : {a b c : Output} → Same a b → Same b c → Same a c
same_trans p q = record { lent = q.lent ∙ p.lent; long = q.long ∙ p.long }

pub put-none : (a : Output) → a.used ≤ size a → Put a [] a
put-none a h = record { fits = omega arith; used = omega arith; holds = sym (append-nil (written a)) }

pub then-put : {a b c : Output} {xs ys : List ℕ} → Same a b → Put a xs b → Put b ys c → Put a (xs ++ ys) c
then-put {a} {b} {c} {xs} {ys} s p q =
    let long = s.long in
    let more = length-append xs ys in
    record {
      fits = omega (arith, p.used, q.fits);
      used = omega (arith, p.used, q.used);
      holds = q.holds ∙ ap (λ zs. zs ++ ys) p.holds ∙ append_assoc (written a) xs ys;
    }

pub as_put : {a b : Output} {xs ys : List ℕ} → xs ≡ ys → Put a xs b → Put a ys b
as_put {a} {b} {xs} {ys} e p = subst (λ zs. Put a zs b) e p

pub as_puts : {a b : Output} {xs ys : List ℕ} {r : Result (Unit {0}) Short} → xs ≡ ys → Puts a xs r b → Puts a ys r b
as_puts {a} {b} {xs} {ys} {r} e p = subst (λ zs. Puts a zs r b) e p

-- what a call does with the second part of what is put down, at the whole
pub then-puts : {a b c : Output} {xs ys : List ℕ} (r : Result (Unit {0}) Short) → Puts a xs (Ok tt) b → Puts b ys r c → Puts a (xs ++ ys) r c
then-puts (Ok u) p q = record { same = same_trans p.same q.same; cases = then-put p.same p.cases q.cases }
then-puts {a} {b} {c} {xs} {ys} (Err e) p q =
    let long = p.same.long in
    let more = length-append xs ys in
    record { same = same_trans p.same q.same; cases = omega (arith, p.cases.used, q.cases) }

-- the exit of a `?`, with more to come after what did not fit
pub exit_puts : {a b : Output} {xs : List ℕ} {e : Short} (r : Result (Unit {0}) Short) → IsErrAnd r (λ y. y ≡ e) → (ys : List ℕ) → Puts a xs (Err e) b → Puts a (xs ++ ys) r b
exit_puts (Ok u) h ys p = absurd h
exit_puts {a} {b} {xs} {e} (Err y) h ys p =
    let more = length-append xs ys in
    record { same = p.same; cases = omega (arith, p.cases) }
