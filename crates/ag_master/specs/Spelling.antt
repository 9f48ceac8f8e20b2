-- The sector of a master.
use Rattle.std.specs.Prelude.{◌≡◌, ◌⊎◌, ◌^◌, ◌<◌, ℕ, List, [], ◌∷◌, ◌++◌, take, drop, replicate, slice_index}
use Rattle.std.specs.Int.{Width, w16, w64, byte_len, to_be_bytes, from_be_bytes}
use Rattle.ag_model.specs.PageSets.{pages_where, has_bit, bytes_of}
use Rattle.ag_master.specs.declared.master.Master.{Master}

-- the eight letters AGMASTER
abbrev pub letters : List ℕ
letters = 65 ∷ 71 ∷ 77 ∷ 65 ∷ 83 ∷ 84 ∷ 69 ∷ 82 ∷ []

-- the sector: letters, format, state, a zero, incarnation, term, cut, undo LSN, redo start, pages, replica, a zero,
-- the bits of the foreign pages, and zeros
unfoldable pub spelling : Master → List ℕ
spelling m =
    letters ++ (to_be_bytes w16 m.format ++ (m.state ∷ 0 ∷ (to_be_bytes w64 m.incarnation ++ (to_be_bytes w64 m.term ++ (to_be_bytes w64 m.cut ++ (to_be_bytes w64 m.undo ++ (to_be_bytes w64 m.redo
    ++ (to_be_bytes w16 m.pages ++ (m.replica ∷ 0 ∷ (bytes_of m.foreign ++ replicate 200 0))))))))))

-- format 1, and a state that is kept
pub record IsKept (m : Master) : Type 0 where
  pub format : m.format ≡ 1
  pub state : (m.state ≡ 0) ⊎ (m.state ≡ 3) ⊎ (m.state ≡ 4)

-- a master that a sector can have: its numbers fit, and the bits of its foreign pages give them back
pub record HasSpelling (m : Master) : Type 0 where
  pub kept : IsKept m
  pub incarnation : m.incarnation < 2 ^ 64
  pub term : m.term < 2 ^ 64
  pub cut : m.cut < 2 ^ 64
  pub undo : m.undo < 2 ^ 64
  pub redo : m.redo < 2 ^ 64
  pub pages : m.pages < 2 ^ 16
  pub foreign : pages_where (has_bit (bytes_of m.foreign)) ≡ m.foreign

-- the number in front
abbrev pub number : Width → List ℕ → ℕ
number w bytes = from_be_bytes w (take (byte_len w) bytes)

-- what stands at the places of a sector
unfoldable pub fields : List ℕ → Master
fields s = record {
  format = number w16 (drop 8 s);
  state = slice_index s 10;
  incarnation = number w64 (drop 12 s);
  term = number w64 (drop 20 s);
  cut = number w64 (drop 28 s);
  undo = number w64 (drop 36 s);
  redo = number w64 (drop 44 s);
  pages = number w16 (drop 52 s);
  replica = slice_index s 54;
  foreign = pages_where (has_bit (take 256 (drop 56 s)));
}
