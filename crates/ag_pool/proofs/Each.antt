-- Frames, each as something makes it of its page.
use Rattle.std.proofs.Common.{◌≡◌, ℕ, zero, suc, ◌+◌, ◌<◌, ◌≤◌, List, [], ◌∷◌, length, get_or, set, map, refl, sym, ap, ◌∙◌, arith}
use Rattle.std.specs.List.{enumerate_from}
use Rattle.std.proofs.lemmas.List.{length-map, get_or-map}
use Rattle.std.proofs.lemmas.List.FromFn.{length-enumerate_from, get_or-enumerate_from}
use Rattle.ag_pool.specs.declared.frame.Frame.{Frame}

-- frames from this page on, each as this makes it of its page
abbrev pub each_from : (ℕ → Frame → Frame) → ℕ → List Frame → List Frame
each_from g n frames = map (λ (e : ℕ × Frame). g e.0 e.1) (enumerate_from n frames)

pub length-each : (g : ℕ → Frame → Frame) (n : ℕ) (frames : List Frame) → length (each_from g n frames) ≡ length frames
length-each g n frames = length-map (enumerate_from n frames) (λ (e : ℕ × Frame). g e.0 e.1) ∙ length-enumerate_from n frames

pub at-each : (g : ℕ → Frame → Frame) (n i : ℕ) (frames : List Frame) (d : Frame) → i < length frames → get_or (each_from g n frames) i d ≡ g (n + i) (get_or frames i d)
at-each g n i frames d lt =
    get_or-map (λ (e : ℕ × Frame). g e.0 e.1) (enumerate_from n frames) i (0, d) d (omega (arith, length-enumerate_from n frames))
    ∙ ap (λ (e : ℕ × Frame). g e.0 e.1) (get_or-enumerate_from n frames i (0, d) lt)

-- one after the other
pub each-then : (g h : ℕ → Frame → Frame) (n : ℕ) (frames : List Frame) → each_from g n (each_from h n frames) ≡ each_from (λ p f. g p (h p f)) n frames
each-then g h n [] = refl
each-then g h n (f ∷ frames) = ap (λ (l : List Frame). g n (h n f) ∷ l) (each-then g h (n + 1) frames)

-- the same, made otherwise
pub each-same : (g h : ℕ → Frame → Frame) (n : ℕ) (frames : List Frame) → ((p : ℕ) (f : Frame) → g p f ≡ h p f) → each_from g n frames ≡ each_from h n frames
each-same g h n frames e i = each_from (λ p f. e p f i) n frames

-- frames that stay
pub each-none : (g : ℕ → Frame → Frame) (n : ℕ) (frames : List Frame) → ((p : ℕ) (f : Frame) → n ≤ p → p < n + length frames → g p f ≡ f) → frames ≡ each_from g n frames
each-none g n [] e = refl
each-none g n (f ∷ frames) e =
    let here = e n f (omega arith) (omega arith) in
    let rest = each-none g (n + 1) frames (λ p x le lt. e p x (omega arith) (omega arith)) in
    ap (λ (l : List Frame). f ∷ l) rest ∙ ap (λ (x : Frame). x ∷ each_from g (n + 1) frames) (sym here)

-- only the frame of one page changes
pub each-one : (g : ℕ → Frame → Frame) (page n i : ℕ) (frames : List Frame) (d : Frame) → page ≡ n + i → i < length frames → ((p : ℕ) (f : Frame) → (p ≡ page → ⊥)
    → g p f ≡ f) → set frames i (g page (get_or frames i d)) ≡ each_from g n frames
each-one g page n i [] d at lt off = absurd (omega arith)
each-one g page n zero (f ∷ frames) d at lt off =
    let here : page ≡ n = omega arith in
    ap (λ (l : List Frame). g page f ∷ l) (each-none g (n + 1) frames (λ p x le below. off p x (λ is. absurd (omega arith))))
    ∙ ap (λ (q : ℕ). g q f ∷ each_from g (n + 1) frames) here
each-one g page n (suc i) (f ∷ frames) d at lt off =
    let away : n ≡ page → ⊥ = λ is. absurd (omega arith) in
    ap (λ (l : List Frame). f ∷ l) (each-one g page (n + 1) i frames d (omega arith) (omega arith) off)
    ∙ ap (λ (x : Frame). x ∷ each_from g (n + 1) frames) (sym (off n f away))
