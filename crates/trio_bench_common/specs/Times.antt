-- The less of two times, and how often one goes into another.
use Rattle.std.specs.Prelude.{ℕ, ◌*◌, ◌^◌, ◌-◌, Option, None, Some, min, max, ◌/◌}
use Rattle.trio_bench_common.specs.declared.Times.{Times}

-- the less of two times; None where one is wanting
abbrev pub lesser : Option ℕ → Option ℕ → Option ℕ
lesser (Some a) (Some b) = Some (min a b)
lesser (Some a) None = None
lesser None other = None

-- the less of each of two times; None where one is wanting
abbrev pub lesser_times : Option Times → Option ℕ → Option ℕ → Option Times
lesser_times (Some t) (Some a) (Some b) = Some (record { first = min a t.first; second = min b t.second })
lesser_times (Some t) (Some a) None = None
lesser_times (Some t) None second = None
lesser_times None first second = None

-- how often one number goes into another, in hundredths, for numbers of 128 bits
abbrev pub hundredths : ℕ → ℕ → ℕ
hundredths number beside = min (number * 100) (2 ^ 128 - 1) / max beside 1
