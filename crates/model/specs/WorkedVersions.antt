-- docs/MODEL.md, 'Reading': version 2 of the record of `WorkedRecord`, short records of each version, and a caller's limits. Assumes nothing.
use Rattle.std.specs.Prelude.{◌≡◌, refl, List, [], ◌∷◌, ◌++◌, map, ℕ, ◌+◌, set, replicate}
use Rattle.model.specs.declared.Road.{Road}
use Rattle.model.specs.Numbers.{fill_of, list_of, one_of, first_from, first_of}
use Rattle.model.specs.Record.{gate_capacity_offset, gate_queue_offset, header_size, number_of, seconds_size}
use Rattle.model.specs.Limits.{place_ok, row_ok}
use Rattle.model.specs.Reading.{both_versions, accepted_of, reading_by, reading_within, reading_of}
use Rattle.model.specs.WorkedRecord.{header, upstream, downstream, row, sample, cells, start}

-- where the gate's capacity, its queue and the first cell are in version 1 and in version 2
layouts : map gate_capacity_offset both_versions ∷ map gate_queue_offset both_versions ∷ map header_size both_versions ∷ []
    ≡ (8 ∷ 10 ∷ []) ∷ (12 ∷ 14 ∷ []) ∷ (16 ∷ 18 ∷ []) ∷ []
unfolding seconds_size
layouts = refl

-- the same in version 2: 122 bytes follow the first field; n 2, T 3; the step's seconds; gate capacity 2000, queue 3000
timed_header : ℕ → ℕ → List ℕ
timed_header high low = 0 ∷ 0 ∷ 0 ∷ 122 ∷ 2 ∷ 2 ∷ 0 ∷ 3 ∷ high ∷ low ∷ 0 ∷ 0 ∷ 7 ∷ 208 ∷ 0 ∷ 0 ∷ 11 ∷ 184 ∷ []

timed : ℕ → ℕ → List ℕ
timed high low = timed_header high low ++ (upstream ++ (downstream ++ (row ++ (row ++ row))))

timed_road : ℕ → Road
timed_road seconds = record {
  n = 2;
  version = 2;
  seconds = seconds;
  gate_capacity = 2000;
  speed = cells 500 500;
  wave = cells 250 250;
  share = cells 750 0;
  ramp = cells 0 1;
  jam = cells 8000 8000;
  capacity = cells 2000 1000;
}

timed_accepted : reading_of (timed 0 20) ≡ accepted_of 3 (timed_road 20) start
unfolding timed timed_header timed_road upstream downstream row cells start
    reading_by one_of number_of seconds_size fill_of list_of first_from first_of place_ok row_ok
timed_accepted = refl

-- 1 and 900 seconds pass; 0 and 901 are refused with 19. The bytes of 900 in the other order would be 33,795
timed_seconds : map (λ (s : List ℕ). (reading_of s).number) (timed 0 1 ∷ timed 3 132 ∷ timed 0 0 ∷ timed 3 133 ∷ []) ≡ 0 ∷ 0 ∷ 19 ∷ 19 ∷ []
unfolding timed timed_header upstream downstream row reading_by one_of number_of seconds_size fill_of list_of first_from first_of place_ok row_ok
timed_seconds = refl

-- 19 comes after 3 and before 4: 0 seconds with T 0, and with n 3
timed_order : map (λ (s : List ℕ). (reading_of s).number) (set (timed 0 0) 7 0 ∷ set (timed 0 0) 5 3 ∷ set (timed 0 20) 5 3 ∷ []) ≡ 3 ∷ 19 ∷ 4 ∷ []
unfolding timed timed_header upstream downstream row reading_by one_of number_of seconds_size fill_of list_of first_from first_of place_ok row_ok
timed_order = refl

-- only 16, 17 or 18 bytes, with a correct first field: in version 2, 16 and 17 are refused with 1; in versions 1 and 3 none of them is
alone : ℕ → ℕ → ℕ
alone version rest = (reading_of (0 ∷ 0 ∷ 0 ∷ (12 + rest) ∷ version ∷ replicate (11 + rest) 0)).number

alone_numbers : map (alone 2) (0 ∷ 1 ∷ 2 ∷ []) ++ (map (alone 1) (0 ∷ 1 ∷ 2 ∷ []) ++ map (alone 3) (0 ∷ 1 ∷ 2 ∷ []))
    ≡ 1 ∷ 1 ∷ 3 ∷ 3 ∷ 3 ∷ 3 ∷ 2 ∷ 2 ∷ 2 ∷ []
unfolding alone reading_by one_of number_of seconds_size fill_of list_of first_from first_of place_ok row_ok
alone_numbers = refl

-- a caller that takes 2 cells and 124 bytes reads it; with one cell or one byte less it is refused with 26
within : ℕ → ℕ → ℕ
within cells most = (reading_within cells most sample).number

within_numbers : within 2 124 ∷ within 1 124 ∷ within 2 123 ∷ within 8 4096 ∷ within 0 0 ∷ [] ≡ 0 ∷ 26 ∷ 26 ∷ 0 ∷ 26 ∷ []
unfolding within sample header upstream downstream row reading_by one_of number_of seconds_size fill_of list_of first_from first_of place_ok row_ok
within_numbers = refl

-- 26 comes after 1, 2, 3, 19 and 4, and before 5 and 6
within_order : map (λ (s : List ℕ). (reading_within 1 4096 s).number)
    (set sample 3 121 ∷ set sample 4 3 ∷ set sample 7 0 ∷ timed 0 0 ∷ set sample 5 3 ∷ set sample 12 60 ∷ set sample 65 16 ∷ [])
    ≡ 1 ∷ 2 ∷ 3 ∷ 19 ∷ 4 ∷ 26 ∷ 26 ∷ []
unfolding sample timed timed_header header upstream downstream row reading_by one_of number_of seconds_size fill_of list_of first_from first_of place_ok row_ok
within_order = refl
