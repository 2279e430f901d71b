-- Going round a book.
use Rattle.std.proofs.Common.{◌≡◌, ℕ, ◌+◌, ◌-◌, ◌%◌, ◌<◌, ◌≤◌, List, [], length, get_or, Some, None, Option, sym, ap, ◌∙◌, subst, mod-lt, mod-eq_of_lt, arith, below_more, MatchOption}
use native.Mathlib.Nat.{add-mod-mod, add-mod_right, mod-add-mod}
use Rattle.std.specs.List.{slice_get}
use Rattle.std.proofs.lemmas.Option.{slice_get-get_or, slice_get_past, slice_get_within}
use Rattle.rules.specs.declared.term.Kind.TheVariants.{Equality}
use Rattle.rules.specs.declared.loaded.LoadedRule.{LoadedRule}
use Rattle.rules.specs.Rules.{◌∈◌, Relation, Rule, Keeps}
use Rattle.rules.specs.Books.{BookMeaning, WellFormed, WellFormedBook}
use Rattle.rules.specs.Doubled.{doubled}
use Rattle.rules.specs.Loaded.{DoubledOf, meant}
use Rattle.rules.proofs.Nths.{member_nth, nth_member, some_none, some_same}
use Rattle.search.specs.declared.spot.Spot.{Spot}
use Rattle.search.specs.Spots.{Found, Looked, LookedAt, Quiet, turned}
use Rattle.search.proofs.Breaks.{keeps_doubled, undouble}

-- a round from any rule on comes to each rule
turn_of : (n first i : ℕ) → i < n → (t : ℕ) × (t < n) × (turned n first t ≡ i)
turn_of n first i h =
    let some : 0 < n = omega arith in
    let low = mod-lt first {m = n} some in
    let sum : first % n + (i + (n - first % n)) ≡ i + n = omega arith in (
      (i + (n - first % n)) % n,
      mod-lt (i + (n - first % n)) {m = n} some,
      add-mod-mod first (i + (n - first % n)) n ∙ sym (mod-add-mod first n (i + (n - first % n))) ∙ ap (λ x. x % n) sum ∙ add-mod_right i n ∙ mod-eq_of_lt h,
    )

-- a whole round without a break: the relation keeps each rule
pub quiet_round : (rel : Relation) (rules : List Rule) (first turns : ℕ) → length rules ≤ turns → Quiet rel rules first turns → (r : Rule) → r ∈ rules → Keeps rel r
quiet_round rel rules first turns all quiet r m =
    let (i, e) = member_nth rules r m in
    let (t, h, is) = turn_of (length rules) first i (slice_get_within rules i r e) in
    quiet t (omega arith) r (ap (slice_get rules) is ∙ e)

module _ (rel : Relation) (rules : List Rule) (first : ℕ) where
  -- more turns than a round has come to no other rule
  pub quiet_all : (n turns : ℕ) → n ≡ length rules → 0 < n → n ≤ turns → Quiet rel rules first n → Quiet rel rules first turns
  quiet_all n turns is some le quiet t h r e =
      quiet (t % n) (mod-lt t {m = n} some) r (ap (λ m. slice_get rules ((first + t % n) % m)) (sym is) ∙ ap (slice_get rules) (add-mod-mod first t n) ∙ ap (λ m. slice_get rules ((first + t) % m)) is ∙ e)

  pub quiet_more : (n turn : ℕ) → n ≡ length rules → Quiet rel rules first turn → LookedAt rel rules ((first + turn) % n) None → Quiet rel rules first (turn + 1)
  quiet_more n turn is quiet looked = below_more _ _ quiet (λ r e. looked r (ap (λ m. slice_get rules ((first + turn) % m)) is ∙ e))

  pub quiet_none : (turns n : ℕ) → n ≡ length rules → n ≡ 0 → Quiet rel rules first turns
  quiet_none turns n is none t h r e = absurd (some_none r (sym e ∙ slice_get_past rules (turned (length rules) first t) (omega arith)))

  pub quiet_less : (m n : ℕ) → m ≤ n → Quiet rel rules first n → Quiet rel rules first m
  quiet_less m n le quiet t h = quiet t (omega arith)

  -- the first to look at counts as that of the first round
  pub quiet_first : (n turns : ℕ) → n ≡ length rules → Quiet rel rules (first % n) turns → Quiet rel rules first turns
  quiet_first n turns is quiet t h r e = quiet t h r (ap (λ m. slice_get rules ((first % m + t) % length rules)) is ∙ ap (slice_get rules) (mod-add-mod first (length rules) t) ∙ e)

  abbrev no_rule : Rule
  no_rule = record { kind = Equality; pattern = []; left = []; pairs = [] }

  pub found_at : (n turns turn : ℕ) (s : Spot) → n ≡ length rules → 0 < n → turn < turns → LookedAt rel rules ((first % n + turn) % n) (Some s) → Found rel rules first turns s
  found_at n turns turn s en some h looked =
      let number = (first % n + turn) % n in
      let inside : number < length rules = subst (λ m. number < m) en (mod-lt (first % n + turn) {m = n} some) in
      let is : number ≡ turned (length rules) first turn = mod-add-mod first n turn ∙ ap (λ m. (first + turn) % m) en in
      let there : slice_get rules number ≡ Some (get_or rules number no_rule) = slice_get-get_or rules number no_rule inside in
      let (broken, e) = looked (get_or rules number no_rule) there in
      record { turn = turn; in_turn = h; its_turn = e ∙ is; broken = get_or rules number no_rule; there = ap (slice_get rules) e ∙ there; break = broken }

pub looked_is : (rel : Relation) (rules : List Rule) (i : ℕ) (q : Rule) (o : Option Spot) → slice_get rules i ≡ Some q → Looked rel q i o → LookedAt rel rules i o
looked_is rel rules i q o there looked r e = subst (λ x. Looked rel x i o) (some_same q r (sym there ∙ e)) looked

pub looked_doubled : (rel : Relation) (w : ℕ) (r : Rule) (i : ℕ) (o : Option Spot) → WellFormed w r → Looked rel (doubled r) i o → Looked rel r i o
looked_doubled rel w r i None fit keeps = keeps_doubled w r rel fit keeps
looked_doubled rel w r i (Some s) fit (broken, e) = (undouble rel r s broken, e)

pub looked_form : (rel : Relation) (b : BookMeaning) → WellFormedBook b → (i : ℕ) (d : LoadedRule) (o : Option Spot) → DoubledOf b i d → Looked rel (meant d) i o → LookedAt rel b.rules i o
looked_form rel b well i d o form looked =
    looked_is rel b.rules i form.rule o form.there
    (looked_doubled rel b.width form.rule i o (well.rules_fit form.rule (nth_member b.rules i form.rule form.there)) (subst (λ x. Looked rel x i o) form.is looked))

pub form_equality : (b : BookMeaning) (i : ℕ) (d : LoadedRule) → DoubledOf b i d → d.kind ≡ Equality
form_equality b i d form = ap (λ (r : Rule). r.kind) form.is

pub none_found : (rel : Relation) (rules : List Rule) (first turns : ℕ) (o : Option Spot) → o ≡ None → Quiet rel rules first turns → MatchOption o (Quiet rel rules first turns) (Found rel rules first turns)
none_found rel rules first turns o e quiet = subst (λ x. MatchOption x (Quiet rel rules first turns) (Found rel rules first turns)) (sym e) quiet
