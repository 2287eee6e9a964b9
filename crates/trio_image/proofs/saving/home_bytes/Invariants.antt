use Rattle.trio_image.proofs.Words.{◌≡◌, bytes_in, drop, length, take}
use Rattle.trio_image.proofs.saving.home_bytes.Given as goal

abbrev pub invariant-loop-i : goal.invariant-loop-i
invariant-loop-i l = record {
  rest : drop l.i l.home.pages ≡ drop l.i l.initial.home.pages;
  count : length l.home.pages ≡ length l.initial.home.pages;
  joined : l.bytes.items ≡ bytes_in (take l.i l.initial.home.pages);
}
