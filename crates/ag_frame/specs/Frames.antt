-- The frames of pages, the one used last first. A frame shows the number of a page and the page, or nothing.
use Rattle.std.specs.Prelude.{ℕ, Bool, false, ◌≡◌, ◌==◌, ◌<◌, cond, List, [], ◌∷◌, length, map, Option, Some, None}
use Rattle.std.specs.List.{AllByRecursion}
use Rattle.ag_frame.specs.declared.frame.Frame.{Frame}
use Rattle.ag_frame.specs.declared.frame.Frame.TheVariants.{Free, Held}

module _ {T : Type 0} where
  -- what a frame shows
  abbrev pub shown : Frame T → Option (ℕ × T)
  shown Free = None
  shown (Held page value) = Some (page, value)

  -- what the frames of a cache show, in order
  abbrev pub all_shown : List (ℕ × Frame T) → List (Option (ℕ × T))
  all_shown = map (λ e. shown e.1)

  -- the frame holds the page of this number
  abbrev pub holds : ℕ → Option (ℕ × T) → Bool
  holds page None = false
  holds page (Some held) = held.0 == page

  -- the page of this number, where a frame holds it
  abbrev pub page_of : ℕ → List (Option (ℕ × T)) → Option T
  page_of page [] = None
  page_of page (None ∷ frames) = page_of page frames
  page_of page (Some held ∷ frames) = cond (held.0 == page) (Some held.1) (page_of page frames)

  -- the frames without the first that holds the page
  abbrev pub without : ℕ → List (Option (ℕ × T)) → List (Option (ℕ × T))
  without page [] = []
  without page (frame ∷ frames) = cond (holds page frame) frames (frame ∷ without page frames)

  -- the key of the first entry whose frame holds the page
  abbrev pub holder : ℕ → List (ℕ × Frame T) → Option ℕ
  holder page [] = None
  holder page (entry ∷ entries) = cond (holds page (shown entry.1)) (Some entry.0) (holder page entries)

  -- the frame with another page under the same number
  abbrev pub with_page : Frame T → T → Frame T
  with_page Free page = Free
  with_page (Held number old) page = Held number page

  -- each key is below the number
  abbrev pub AllBelow : ℕ → List (ℕ × Frame T) → Type 0
  AllBelow number es = AllByRecursion (λ e. e.0 < number) es

  -- there are n entries, whose keys are the numbers below n, as none stands twice in a cache
  abbrev pub IsNumbered : ℕ → List (ℕ × Frame T) → Type 0
  IsNumbered n es = (length es ≡ n) × AllBelow n es
