-- What is known, and what may be known at most, where logs go on.
use Rattle.std.proofs.Common.{◌≡◌, ℕ, zero, suc, ◌+◌, ◌<◌, ◌≤◌, List, [], ◌∷◌, ◌++◌, length, take, inl, inr, ◌⊎◌, refl, sym, ap, ◌∙◌, subst, arith, length-take-le, take-take, take_all}
use Rattle.std.specs.Prelude.{Some, slice_get}
use Rattle.std.specs.List.{fold}
use Rattle.ag_model.specs.declared.record.Record.{Record}
use Rattle.ag_model.specs.declared.record.Record.TheVariants.{Put, Del, Commit, Abort, Trim, Term}
use Rattle.ag_model.specs.declared.config.TermStart.{TermStart}
use Rattle.ag_model.specs.Starts.{last_term}
use Rattle.ag_ends.specs.Starts.{starts_after}
use Rattle.ag_laws.specs.Prefix.{IsPrefixOf}
use Rattle.ag_laws.proofs.Prefix.{prefix_refl, prefix_trans, prefix_length, take_prefix}
use Rattle.ag_laws.proofs.Grow.{last_begun, take_is_prefix}
use Rattle.ag_law_kept.specs.Known.{IsKnown, AtMost, Covers}

pub take_of_prefix : (n : ℕ) (a b : List Record) → IsPrefixOf a b → IsPrefixOf (take n a) b
take_of_prefix n a b p = prefix_trans (take n a) a b (take_is_prefix n a) p

pub nil_prefix : (b : List Record) → IsPrefixOf [] b
nil_prefix b = (b, refl)

-- two beginnings of a log are the same as far as both go
pub same_beginning : (f : ℕ) (a b c : List Record) → f ≤ length a → f ≤ length b → IsPrefixOf (take f a) c → IsPrefixOf b c → take f a ≡ take f b
same_beginning f a b c h h2 p q =
    let long : length (take f a) ≡ f = length-take-le f a h in
    sym (take_all f (take f a) (omega (arith, long)))
    ∙ take_prefix f (take f a) c (omega (arith, long)) p
    ∙ sym (take_prefix f b c h2 q)

-- a record of a beginning
pub get_prefix : (i : ℕ) (a b : List Record) → i < length a → IsPrefixOf a b → slice_get a i ≡ slice_get b i
get_prefix i a b h p = get_append i a p.0 h ∙ ap (λ l. slice_get l i) p.1
  where
    get_append : (i : ℕ) (a rest : List Record) → i < length a → slice_get a i ≡ slice_get (a ++ rest) i
    get_append i [] rest h = absurd (omega arith)
    get_append zero (x ∷ a) rest h = refl
    get_append (suc i) (x ∷ a) rest h = get_append i a rest (omega (arith, h))

pub get_within : (i : ℕ) (a : List Record) (x : Record) → slice_get a i ≡ Some x → i < length a
get_within i [] x e = absurd (cc)
get_within zero (y ∷ a) x e = omega arith
get_within (suc i) (y ∷ a) x e = omega (arith, get_within i a x e)

pub known_longer : (told log grown : List Record) (f : ℕ) → IsPrefixOf log grown → IsKnown told log f → IsKnown told grown f
known_longer told log grown f p k = (k.0, prefix_trans (take f told) log grown k.1 p)

pub known_less : (told log : List Record) (f h : ℕ) → f ≤ h → IsKnown told log h → IsKnown told log f
known_less told log f h le k = (omega (arith, le, k.0), subst (λ (l : List Record). IsPrefixOf l log) (take-take f h told le) (take_of_prefix f (take h told) log k.1))

pub known_none : (told log : List Record) → IsKnown told log 0
known_none told log = (omega arith, nil_prefix log)

pub known_self : (log grown : List Record) (f : ℕ) → f ≤ length log → IsPrefixOf log grown → IsKnown log grown f
known_self log grown f h p = (h, take_of_prefix f log grown p)

pub most_longer : (told log grown : List Record) (most : ℕ) → IsPrefixOf log grown → AtMost told log most → AtMost told grown most
most_longer told log grown most p a = λ g q f k. a g (prefix_trans log grown g p q) f k

pub most_more : (told log : List Record) (most more : ℕ) → most ≤ more → AtMost told log most → AtMost told log more
most_more told log most more h a = λ g q f k. omega (arith, h, a g q f k)

pub most_length : (told log : List Record) (most : ℕ) → length told ≤ most → AtMost told log most
most_length told log most h = λ g q f k. omega (arith, h, k.0)

pub covers_longer : (first second log grown : List Record) → IsPrefixOf log grown → Covers first second log → Covers first second grown
covers_longer first second log grown p c = λ g q f k. c g (prefix_trans log grown g p q) f k

pub covers_trans : (a b c log : List Record) → Covers a b log → Covers b c log → Covers a c log
covers_trans a b c log p q = λ g h f k. q g h f (p g h f k)

pub covers_refl : (a log : List Record) → Covers a a log
covers_refl a log = λ g h f k. k

-- a longer log covers its beginnings
pub covers_prefix : (a b log : List Record) → IsPrefixOf a b → Covers a b log
covers_prefix a b log p = λ g h f k. (omega (arith, k.0, prefix_length a b p), subst (λ (l : List Record). IsPrefixOf l g) (take_prefix f a b k.0 p) k.1)

-- a beginning of the log covers what is known of it at most
pub covers_here : (told l log : List Record) → IsPrefixOf l log → AtMost told log (length l) → Covers told l log
covers_here told l log p a = λ g h f k. known_self l g f (a g h f k) (prefix_trans l log g p h)

pub known_covered : (a b log : List Record) (f : ℕ) → Covers a b log → IsKnown a log f → IsKnown b log f
known_covered a b log f c k = c log (prefix_refl log) f k

-- the last term of a beginning that ends with a Term record
pub last_at_term : (i t : ℕ) (log : List Record) → slice_get log i ≡ Some (Term t) → last_term (take (i + 1) log) ≡ t
last_at_term i t log e = ap (λ (l : List Record). last_term l) (split i log e) ∙ last_begun (take i log) [] t tt
  where
    split : (i : ℕ) (log : List Record) → slice_get log i ≡ Some (Term t) → take (i + 1) log ≡ take i log ++ Term t ∷ []
    split i [] e = absurd (cc)
    split zero (x ∷ log) e = let same : x ≡ Term t = cc in ap (λ y. y ∷ []) same
    split (suc i) (x ∷ log) e = let one : suc i + 1 ≡ suc (i + 1) = omega arith in ap (λ k. take k (x ∷ log)) one ∙ ap (λ l. x ∷ l) (split i log e)

-- the term that some records leave is the one before them, or one of theirs
last_found : (k d t : ℕ) (log : List Record) → fold (λ last (s : TermStart). s.term) d (starts_after k log) ≡ t → (d ≡ t) ⊎ ((i : ℕ) × (slice_get log i ≡ Some (Term t)))
last_found k d t [] e = inl e
last_found k d t (Term u ∷ log) e = elim (last_found (k + 1) u t log e) [ inl same ↦ inr (0, ap (λ x. Some (Term x)) same) | inr r ↦ inr (suc r.0, r.1) ]
last_found k d t (Put u key v ∷ log) e = elim (last_found (k + 1) d t log e) [ inl same ↦ inl same | inr r ↦ inr (suc r.0, r.1) ]
last_found k d t (Del u key ∷ log) e = elim (last_found (k + 1) d t log e) [ inl same ↦ inl same | inr r ↦ inr (suc r.0, r.1) ]
last_found k d t (Commit u ps ∷ log) e = elim (last_found (k + 1) d t log e) [ inl same ↦ inl same | inr r ↦ inr (suc r.0, r.1) ]
last_found k d t (Abort u ps ∷ log) e = elim (last_found (k + 1) d t log e) [ inl same ↦ inl same | inr r ↦ inr (suc r.0, r.1) ]
last_found k d t (Trim p h ∷ log) e = elim (last_found (k + 1) d t log e) [ inl same ↦ inl same | inr r ↦ inr (suc r.0, r.1) ]

-- a log with a last term has its Term record
pub has_term : (log : List Record) (t : ℕ) → 0 < t → last_term log ≡ t → (i : ℕ) × (slice_get log i ≡ Some (Term t))
has_term log t some e = elim (last_found 0 0 t log e) [ inl none ↦ absurd (omega (arith, none, some)) | inr r ↦ r ]
