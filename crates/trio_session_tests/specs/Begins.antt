-- A library that begins a session at its desk.
use Rattle.trio_rights.specs.declared.rights.LibNo.{LibNo}
use Rattle.trio_desk.specs.Out.{OutAlike, nothing_out}
use Rattle.trio_ctl.specs.Ctl.{Controller, IsIdle, IsLibrary, NoneBegun}
use Rattle.trio_ctl.specs.Desk.{out_of}

-- the second of two libraries
abbrev pub second_lib : LibNo
second_lib = record { 0 = 2 }

-- nothing is out to anybody, and no release has begun
pub record NothingIsOut (c : Controller) : Type 0 where
  pub out : (lib : LibNo) → OutAlike (out_of c.state lib) nothing_out
  pub idle : NoneBegun c

-- a library has nothing out, and is idle
pub record MayBegin (c : Controller) (lib : LibNo) : Type 0 where
  pub library : IsLibrary lib c.state
  pub idle : IsIdle c lib.0
  pub out : OutAlike (out_of c.state lib) nothing_out
