-- Pages that rise, and what is written of the first of them.
use Rattle.std.proofs.Common.{◌≡◌, ◌+◌, ◌<◌, ◌≤◌, ℕ, suc, zero, List, [], ◌∷◌, ◌++◌, length, get_or, set, take, drop, Result, Ok, Err, append_assoc, refl, sym, ap, ◌∙◌, arith, inl, inr, subst}
use Rattle.std.specs.List.{AllByRecursion}
use Rattle.std.proofs.lemmas.List.{take_more, append-nil, take-append-drop, map-append, get_or-set_same, get_or-set_other}
use Rattle.std.proofs.lemmas.List.Concat.{flat_map-append}
use Rattle.std.proofs.lemmas.Bool.{cases_eq}
use Rattle.ag_lists.proofs.Places.{same_at}
use Rattle.ag_model.specs.Cells.{mark_after}
use Rattle.ag_outside.specs.declared.disk.SectorWrite.{SectorWrite}
use Rattle.ag_outside.specs.Disks.{Content, Image, writes, put_all, MayAdd, IsImage}
use Rattle.ag_outside.specs.declared.disk.DiskError.{DiskError}
use Rattle.ag_outside.specs.declared.disk.DiskError.TheVariants.{Failed}
use Rattle.ag_outside.specs.Calls.{Call, Write_call, Piece, Leads}
use Rattle.ag_outside.proofs.Puts.{put_all-append, wrote-left, wrote-right}
use Rattle.ag_pagestore.specs.declared.batch.PageWrite.{PageWrite}
use Rattle.ag_pagestore.specs.Places.{place, page_cells}
use Rattle.ag_pagestore.specs.Batches.{RisesFrom, IsWhole, marked, piece, pieces, written, went, WritesUntilFault}
use Rattle.ag_pagestore.specs.Moments.{IsPartOf}
use Rattle.ag_pagestore.specs.Calling.{leads_on}

-- each page has a place
pub page_below : (low : ℕ) (batch : List PageWrite) (i : ℕ) (d : PageWrite) → RisesFrom low batch → i < length batch → (get_or batch i d).page < 2064
page_below low [] i d rises lt = absurd (omega arith)
page_below low (w ∷ ws) zero d rises lt = rises.1
page_below low (w ∷ ws) (suc i) d rises lt = page_below (suc w.page) ws i d rises.2 (omega arith)

pub place_below : (low : ℕ) (batch : List PageWrite) (i size : ℕ) (d : PageWrite) → RisesFrom low batch → i < length batch → 33088 ≤ size → place (get_or batch i d).page + 16 ≤ size
place_below low batch i size d rises lt le = let below = page_below low batch i d rises lt in omega (arith, below)

-- one mark more
pub next_more : (disk : Image) (batch : List PageWrite) (marks : List ℕ) (i mark : ℕ) (at : PageWrite) → i < length batch → i < length marks → ((k : ℕ) (d : PageWrite) → k < i → get_or marks k 0 ≡ mark_after (page_cells disk (get_or batch k d).page)) → mark ≡ mark_after (page_cells disk (get_or batch i at).page)
    → (k : ℕ) (d : PageWrite) → k < i + 1 → get_or (set marks i mark) k 0 ≡ mark_after (page_cells disk (get_or batch k d).page)
next_more disk batch marks i mark at within lt before here k d below = elim (cases_eq k i) [
  | inl is ↦ ap (λ (j : ℕ). get_or (set marks i mark) j 0) is ∙ get_or-set_same marks i mark 0 lt ∙ here ∙ ap (λ (w : PageWrite). mark_after (page_cells disk w.page)) (same_at batch i at d within) ∙ ap (λ (j : ℕ). mark_after (page_cells disk (get_or batch j d).page)) (sym is)
  | inr apart ↦ get_or-set_other marks i k mark 0 apart ∙ before k d (omega arith)
]

-- two steps of adding
pub adds_both : (xs ys : List SectorWrite) (a b c : ℕ → Content → Type 0) → MayAdd xs a b → MayAdd ys b c → MayAdd (xs ++ ys) a c
adds_both xs ys a b c first then at content is = elim (then at content is) [
  | inl mid ↦ elim (first at content mid) [ inl old ↦ inl old | inr wrote ↦ inr (wrote-left xs ys at content wrote) ]
  | inr wrote ↦ inr (wrote-right xs ys at content wrote)
]

-- one page more
module _ (disk : Image) (batch : List PageWrite) (i : ℕ) (d : PageWrite) (lt : i < length batch) where
  abbrev here : PageWrite
  here = get_or batch i d

  pub written_more : written disk (take (i + 1) batch) ≡ written disk (take i batch) ++ writes (place here.page) (marked disk here)
  written_more =
      ap (written disk) (take_more batch i d lt) ∙ flat_map-append (λ (w : PageWrite). writes (place w.page) (marked disk w)) (take i batch) (here ∷ [])
      ∙ ap (λ (z : List SectorWrite). written disk (take i batch) ++ z) (append-nil (writes (place here.page) (marked disk here)))

  pub pieces_more : pieces disk (take (i + 1) batch) ≡ pieces disk (take i batch) ++ piece disk here ∷ []
  pieces_more = ap (pieces disk) (take_more batch i d lt) ∙ map-append (piece disk) (take i batch) (here ∷ [])

  rest_of : take (i + 1) batch ++ drop (i + 1) batch ≡ batch
  rest_of = take-append-drop (i + 1) batch

  pub pieces_at : pieces disk batch ≡ pieces disk (take i batch) ++ piece disk here ∷ pieces disk (drop (i + 1) batch)
  pieces_at =
      ap (pieces disk) (sym rest_of) ∙ map-append (piece disk) (take (i + 1) batch) (drop (i + 1) batch) ∙ ap (λ (z : List Piece). z ++ pieces disk (drop (i + 1) batch)) pieces_more
      ∙ append_assoc (pieces disk (take i batch)) (piece disk here ∷ []) (pieces disk (drop (i + 1) batch))

  module _ (first : ℕ) (image : List (List ℕ)) (place_is : first ≡ place here.page) (image_is : image ≡ marked disk here) where
    writes_is : writes first image ≡ writes (place here.page) (marked disk here)
    writes_is = ap (λ (p : ℕ). writes p image) place_is ∙ ap (writes (place here.page)) image_is

    pub landed_more : (mid new : Image) → mid ≡ put_all disk (written disk (take i batch)) → new ≡ put_all mid (writes first image) → new ≡ put_all disk (written disk (take (i + 1) batch))
    landed_more mid new before wrote =
        wrote ∙ ap (put_all mid) writes_is ∙ ap (λ (im : Image). put_all im (writes (place here.page) (marked disk here))) before
        ∙ sym (put_all-append disk (written disk (take i batch)) (writes (place here.page) (marked disk here))) ∙ ap (put_all disk) (sym written_more)

    pub crash_more : (a b c : ℕ → Content → Type 0) → MayAdd (written disk (take i batch)) a b → MayAdd (writes first image) b c → MayAdd (written disk (take (i + 1) batch)) a c
    crash_more a b c before wrote =
        subst (λ (ws : List SectorWrite). MayAdd ws a c) (ap (λ (z : List SectorWrite). written disk (take i batch) ++ z) writes_is ∙ sym written_more) (adds_both (written disk (take i batch)) (writes first image) a b c before wrote)

    pub part_more : (a b c : ℕ → Content → Type 0) → MayAdd (written disk (take i batch)) a b → MayAdd (writes first image) b c → AllByRecursion IsWhole (take (i + 1) batch) → (left : Image) → IsImage c left → IsPartOf a disk batch left
    part_more a b c before wrote whole left now = record { begun = i + 1; whole = whole; each = λ at. crash_more a b c before wrote at (left at) (now at) }

    call_is : (r : Result (Unit {0}) DiskError) → Write_call first image r ≡ Write_call (place here.page) (marked disk here) r
    call_is r = ap (λ (p : ℕ). Write_call p image r) place_is ∙ ap (λ (im : List (List ℕ)). Write_call (place here.page) im r) image_is

    module _ {D : Type 0} (did : D → Call → D → Type 0) (old mid new : D) (before : Leads did old (went (pieces disk (take i batch))) mid) where
      pub calls_more : did mid (Write_call first image (Ok (record {}))) new → Leads did old (went (pieces disk (take (i + 1) batch))) new
      calls_more call =
          subst (λ (calls : List Call). Leads did old calls new) (sym (ap went pieces_more ∙ map-append (λ (p : Piece). Write_call p.first p.sectors (Ok (record {}))) (pieces disk (take i batch)) (piece disk here ∷ [])))
          (leads_on did (went (pieces disk (take i batch))) (Write_call (place here.page) (marked disk here) (Ok (record {}))) old mid new before (subst (λ (x : Call). did mid x new) (call_is (Ok (record {}))) call))

      pub broken_at : did mid (Write_call first image (Err Failed)) new → WritesUntilFault did old (pieces disk batch) new
      broken_at call = record {
        before = pieces disk (take i batch);
        at = piece disk here;
        after = pieces disk (drop (i + 1) batch);
        all = pieces_at;
        leads = leads_on did (went (pieces disk (take i batch))) (Write_call (place here.page) (marked disk here) (Err Failed)) old mid new before (subst (λ (x : Call). did mid x new) (call_is (Err Failed)) call);
      }
