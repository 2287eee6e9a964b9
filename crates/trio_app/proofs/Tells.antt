-- What a file tells is one thing.
use Rattle.trio_app.proofs.Words.{◌≡◌, ◌≤◌, List, Option, Shelf, Some, ap, arith, length, ℕ}
use Rattle.trio_io.specs.Shelf.{IsLonger, IsTold}
use Rattle.trio_app.specs.Decided.{TellsTooLong}

pub same_bytes : (content : Option (List ℕ)) (bytes other : List ℕ) → content ≡ Some bytes → IsTold content other → bytes ≡ other
same_bytes content bytes other is told = rw is at told

pub is_longer : (limit : ℕ) (content : Option (List ℕ)) (bytes : List ℕ) → content ≡ Some bytes → length bytes ≤ limit → IsLonger limit content → ⊥
is_longer limit content bytes is within longer = let longer' = rw is at longer in omega arith

pub is_shorter : (limit : ℕ) (name : List ℕ) (old : Shelf) (bytes : List ℕ) → TellsTooLong limit name old → IsTold (old.held name) bytes → length bytes ≤ limit → ⊥
is_shorter limit name old bytes long told within =
    let same : length long.bytes ≡ length bytes = ap length (same_bytes (old.held name) long.bytes bytes long.tells told) in omega (arith, long.longer)
