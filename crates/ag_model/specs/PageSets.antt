-- Sets of pages, as the rising lists of their numbers.
use Rattle.std.specs.Prelude.{◌≡◌, ℕ, ◌+◌, ◌-◌, ◌*◌, ◌/◌, ◌%◌, ◌^◌, ◌<◌, List, length, get_or, map, Bool, if◌then◌else◌, ◌==◌}
use Rattle.std.specs.Int.{bit_at}
use Rattle.std.specs.List.{filter, range_with_len, sum_by}
use Rattle.ag_model.specs.Rows.{contains, page_numbers}

-- the most pages that a database can have
unfoldable pub most_pages : ℕ
most_pages = 2048

-- the pages that pass, rising, of all that a database can have
abbrev pub pages_where : (ℕ → Bool) → List ℕ
pages_where passes = filter passes (page_numbers most_pages)

-- whether the bit of a page is set in these bytes
abbrev pub has_bit : List ℕ → ℕ → Bool
has_bit bytes page = bit_at (get_or bytes ((page - 16) / 8) 0) ((page - 16) % 8) == 1

-- a byte for each eight pages
abbrev pub IsBitmap : List ℕ → Type 0
IsBitmap bytes = (length bytes ≡ 256) × ((i : ℕ) → get_or bytes i 0 < 256)

-- the byte at this place that has the bits of these pages
abbrev pub byte_of : List ℕ → ℕ → ℕ
byte_of pages place = sum_by (λ k. if contains (16 + 8 * place + k) pages then 2 ^ k else 0) (range_with_len 0 8)

-- the bytes that have the bits of these pages
abbrev pub bytes_of : List ℕ → List ℕ
bytes_of pages = map (byte_of pages) (range_with_len 0 (most_pages / 8))
