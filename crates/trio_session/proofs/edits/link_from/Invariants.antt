use Rattle.trio_session.proofs.Words.{◌-◌, ◌≡◌, IsFile, chain_at, drop, linked}
use Rattle.trio_session.proofs.edits.link_from.Given as goal

-- with the links that are left all is as after all
abbrev pub invariant-loop-i : goal.invariant-loop-i
invariant-loop-i l = record {
  file : IsFile l.stock l.file l.laid;
  chain : chain_at l.stock l.file l.laid ≡ chain_at l.fn.stock l.file l.laid;
  left : linked (drop (l.i - 1) (chain_at l.fn.stock l.file l.laid).index) l.stock ≡ linked (drop (l.from - 1) (chain_at l.fn.stock l.file l.laid).index) l.fn.stock;
}
