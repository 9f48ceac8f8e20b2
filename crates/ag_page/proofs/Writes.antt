-- Parts that are written one after the other.
use Rattle.std.proofs.Common.{◌≡◌, ℕ, ◌+◌, ◌-◌, ◌≤◌, ◌<◌, true, List, [], ◌∷◌, ◌++◌, length, get_or, take, drop, replicate, refl, sym, ap, ◌∙◌, append_assoc, arith}
use Rattle.std.specs.List.{flat_map}
use Rattle.std.specs.Int.{w16, w32, w64, to_be_bytes}
use Rattle.std.proofs.lemmas.List.{take_at, drop_at, drop-drop, append-nil, take_more, take_all, length-append, length-take}
use Rattle.std.proofs.lemmas.List.Concat.{flat_map-append}
use Rattle.std.proofs.lemmas.List.Sums.{sum_by_more, sum_by_more_le}
use Rattle.ag_model.specs.declared.value.Value.{Value}
use Rattle.ag_model.specs.declared.value.Change.{Change}
use Rattle.ag_model.specs.declared.value.Change.TheVariants.{Put, Del}
use Rattle.ag_model.specs.declared.value.Version.{Version}
use Rattle.ag_model.specs.declared.value.PageValue.{PageValue}
use Rattle.ag_model.specs.Sizes.{change_size, versions_size}
use Rattle.ag_page.specs.Spelling.{change_spelling, version_spelling, header, page_bytes, has_image}
use Rattle.ag_page.proofs.Zeros.{IsFilled, filled_more}
use Rattle.ag_page.proofs.Pages.{image_parts}

-- a part stands at a place, and all else is as before
abbrev pub Writes : ℕ → List ℕ → List ℕ → List ℕ → Type 0
Writes at part old new = new ≡ take at old ++ (part ++ drop (at + length part) old)

-- a part right behind another one
pub writes_both : (at mid : ℕ) (first second old one two : List ℕ) → at ≤ length old → mid ≡ at + length first → Writes at first old one → Writes mid second one two → Writes at (first ++ second) old two
writes_both at mid first second old one two le is p q =
    let front = take at old ++ first in
    let len : length front ≡ mid = omega (arith, length-append (take at old) first, length-take at old) in
    let whole : one ≡ front ++ drop (at + length first) old = p ∙ sym (append_assoc (take at old) first (drop (at + length first) old)) in
    let taken : take mid one ≡ front = ap (take mid) whole ∙ take_at front (drop (at + length first) old) mid len in
    let left : drop (mid + length second) one ≡ drop (at + length (first ++ second)) old =
    sym (drop-drop (length second) mid one) ∙ ap (λ (z : List ℕ). drop (length second) (drop mid z)) whole ∙ ap (drop (length second)) (drop_at front (drop (at + length first) old) mid len) ∙ drop-drop (length second) (at + length first) old
    ∙ (let k : at + length first + length second ≡ at + length (first ++ second) = omega (arith, length-append first second) in ap (λ (n : ℕ). drop n old) k) in
    q ∙ ap (λ (z : List ℕ). z ++ (second ++ drop (mid + length second) one)) taken ∙ ap (λ (z : List ℕ). front ++ (second ++ z)) left
    ∙ append_assoc (take at old) first (second ++ drop (at + length (first ++ second)) old) ∙ ap (λ (z : List ℕ). take at old ++ z) (sym (append_assoc first second (drop (at + length (first ++ second)) old)))

-- what stands before a value's bytes, and these
split-version : (a b c d e f : List ℕ) → a ++ (b ++ (c ++ (d ++ (e ++ f)))) ≡ (a ++ (b ++ (c ++ (d ++ e)))) ++ f
split-version a b c d e f = sym (append_assoc a (b ++ (c ++ (d ++ e))) f ∙ ap (λ (z : List ℕ). a ++ z) (append_assoc b (c ++ (d ++ e)) f ∙ ap (λ (z : List ℕ). b ++ z) (append_assoc c (d ++ e) f ∙ ap (λ (z : List ℕ). c ++ z) (append_assoc d e f))))

-- a version that puts a value: what stands before the value's bytes, and these
pub put_written : (w : Version) (v : Value) (at mid len : ℕ) (first text old one two : List ℕ) → w.change ≡ Put v → len ≡ v.len → text ≡ take v.len v.bytes → length text ≡ v.len
    → first ≡ to_be_bytes w64 w.lsn ++ (to_be_bytes w64 w.txn ++ (to_be_bytes w64 w.commit ++ (to_be_bytes w32 w.key ++ to_be_bytes w16 len))) → length first ≡ 30 → at ≤ length old → mid ≡ at + length first
    → Writes at first old one → Writes mid text one two → two ≡ take at old ++ (version_spelling w ++ drop (at + change_size w.change) old)
unfolding version_spelling
put_written w v at mid len first text old one two is long word size head thirty le place p q =
    let both = writes_both at mid first text old one two le place p q in
    let a = to_be_bytes w64 w.lsn in
    let b = to_be_bytes w64 w.txn in
    let c = to_be_bytes w64 w.commit in
    let d = to_be_bytes w32 w.key in
    let change : change_spelling w.change ≡ to_be_bytes w16 len ++ text = ap change_spelling is ∙ ap (λ (n : ℕ). to_be_bytes w16 n ++ take v.len v.bytes) (sym long) ∙ ap (λ (z : List ℕ). to_be_bytes w16 len ++ z) (sym word) in
    let whole : version_spelling w ≡ first ++ text = ap (λ (z : List ℕ). a ++ (b ++ (c ++ (d ++ z)))) change ∙ split-version a b c d (to_be_bytes w16 len) text ∙ ap (λ (z : List ℕ). z ++ text) (sym head) in
    let many : length (first ++ text) ≡ change_size w.change = omega (arith, length-append first text, thirty, size, ap change_size is) in
    both ∙ ap (λ (n : ℕ). take at old ++ ((first ++ text) ++ drop (at + n) old)) many ∙ ap (λ (z : List ℕ). take at old ++ (z ++ drop (at + change_size w.change) old)) (sym whole)

-- a deletion
pub del_written : (w : Version) (at : ℕ) (first old new : List ℕ) → w.change ≡ Del → first ≡ to_be_bytes w64 w.lsn ++ (to_be_bytes w64 w.txn ++ (to_be_bytes w64 w.commit ++ (to_be_bytes w32 w.key ++ to_be_bytes w16 65535))) → length first ≡ 30
    → Writes at first old new → new ≡ take at old ++ (version_spelling w ++ drop (at + change_size w.change) old)
unfolding version_spelling
del_written w at first old new is head thirty p =
    let whole : version_spelling w ≡ first = ap (λ (c : Change). to_be_bytes w64 w.lsn ++ (to_be_bytes w64 w.txn ++ (to_be_bytes w64 w.commit ++ (to_be_bytes w32 w.key ++ change_spelling c)))) is ∙ sym head in
    let many : length first ≡ change_size w.change = thirty ∙ sym (ap change_size is) in
    p ∙ ap (λ (n : ℕ). take at old ++ (first ++ drop (at + n) old)) many ∙ ap (λ (z : List ℕ). take at old ++ (z ++ drop (at + change_size w.change) old)) (sym whole)

-- the header and the first versions stand there, and zeros
pub record IsWritten (head : List ℕ) (ws : List Version) (i at : ℕ) (bytes : List ℕ) : Type 0 where
  pub filled : IsFilled 8176 (head ++ flat_map version_spelling (take i ws)) bytes
  pub place : at ≡ length (head ++ flat_map version_spelling (take i ws))
  pub size : at ≡ 32 + versions_size (take i ws)

-- a text that is written over zeros
pub filled_first : (n : ℕ) (text part zeros new : List ℕ) → zeros ≡ replicate n 0 → part ≡ text → new ≡ take 0 zeros ++ (part ++ drop (0 + length part) zeros) → IsFilled n text new
filled_first n text part zeros new is same e =
    let k : n ≡ n - 0 = omega arith in
    filled_more n 0 [] text zeros new (is ∙ ap (λ (m : ℕ). replicate m 0) k) refl (e ∙ ap (λ (z : List ℕ). take 0 zeros ++ (z ++ drop (0 + length z) zeros)) same)

pub written_none : (head : List ℕ) (ws : List Version) (at : ℕ) (bytes : List ℕ) → length head ≡ 32 → at ≡ length head → IsFilled 8176 head bytes → IsWritten head ws 0 at bytes
written_none head ws at bytes len is h =
    let e : head ++ flat_map version_spelling (take 0 ws) ≡ head = append-nil head in
    record {
      filled = h ∙ ap (λ (z : List ℕ). z ++ replicate (8176 - length z) 0) (sym e);
      place = is ∙ ap length (sym e);
      size = omega arith;
    }

pub written_more : (head : List ℕ) (ws : List Version) (i at next : ℕ) (old new : List ℕ) (d : Version) → i < length ws → length (version_spelling (get_or ws i d)) ≡ change_size (get_or ws i d).change → next ≡ at + change_size (get_or ws i d).change
    → new ≡ take at old ++ (version_spelling (get_or ws i d) ++ drop (at + change_size (get_or ws i d).change) old) → IsWritten head ws i at old → IsWritten head ws (i + 1) next new
written_more head ws i at next old new d lt len is e h =
    let w = get_or ws i d in
    let text = head ++ flat_map version_spelling (take i ws) in
    let more : head ++ flat_map version_spelling (take (i + 1) ws) ≡ text ++ version_spelling w =
    ap (λ (z : List Version). head ++ flat_map version_spelling z) (take_more ws i d lt) ∙ ap (λ (z : List ℕ). head ++ z) (flat_map-append version_spelling (take i ws) (w ∷ []) ∙ ap (λ (z : List ℕ). flat_map version_spelling (take i ws) ++ z) (append-nil (version_spelling w)))
    ∙ sym (append_assoc head (flat_map version_spelling (take i ws)) (version_spelling w)) in
    let put : Writes at (version_spelling w) old new = e ∙ ap (λ (k : ℕ). take at old ++ (version_spelling w ++ drop (at + k) old)) (sym len) in
    record {
      filled = filled_more 8176 at text (version_spelling w) old new h.filled h.place put ∙ ap (λ (z : List ℕ). z ++ replicate (8176 - length z) 0) (sym more);
      place = omega (arith, is, h.place, len, ap length more, length-append text (version_spelling w));
      size = omega (arith, is, h.size, sum_by_more (λ (v : Version). change_size v.change) ws i d lt);
    }

-- there is room for the next version
pub written_room : (v : PageValue) (head : List ℕ) (ws : List Version) (i at : ℕ) (bytes : List ℕ) (d : Version) → has_image v ≡ true → ws ≡ v.versions → i < length ws → IsWritten head ws i at bytes → at + change_size (get_or ws i d).change ≤ 8176
written_room v head ws i at bytes d is same lt h =
    let room = (image_parts v is).room in
    omega (arith, h.size, ap versions_size same, sum_by_more_le (λ (w : Version). change_size w.change) ws i d lt)

-- all versions stand there: these are the bytes of the page
pub written_all : (v : PageValue) (ws : List Version) (i at : ℕ) (bytes : List ℕ) → ws ≡ v.versions → length ws ≤ i → IsWritten (header v) ws i at bytes → bytes ≡ page_bytes v
unfolding page_bytes
written_all v ws i at bytes same le h =
    let vs = flat_map version_spelling v.versions in
    let whole : take i ws ≡ v.versions = take_all i ws le ∙ same in
    let len : length (header v ++ vs) ≡ 32 + versions_size v.versions = ap (λ (z : List Version). length (header v ++ flat_map version_spelling z)) (sym whole) ∙ sym h.place ∙ h.size ∙ ap (λ (z : List Version). 32 + versions_size z) whole in
    let left : 8176 - length (header v ++ vs) ≡ 8144 - versions_size v.versions = omega arith in
    h.filled ∙ ap (λ (z : List Version). (header v ++ flat_map version_spelling z) ++ replicate (8176 - length (header v ++ flat_map version_spelling z)) 0) whole
    ∙ ap (λ (n : ℕ). (header v ++ vs) ++ replicate n 0) left ∙ append_assoc (header v) vs (replicate (8144 - versions_size v.versions) 0)
