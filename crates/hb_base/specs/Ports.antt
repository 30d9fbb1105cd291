-- The rules that the ports of an image keep.
use Rattle.std.specs.Prelude.{◌≡◌, ◌≢◌, ℕ, ◌+◌, ◌^◌, ◌%◌, ◌≤◌, ◌⊎◌, IsTrue, List, length, All, AllPairs}
use Rattle.hb_base.specs.declared.port.Port.{Port}
use Rattle.hb_base.specs.PortName.{is_port_name}

-- 1, 2 or 4 bytes
abbrev pub IsWidth : ℕ → Type 0
IsWidth width = (width ≡ 1) ⊎ ((width ≡ 2) ⊎ (width ≡ 4))

-- one port by itself: ports stand from 80000000 up, at a multiple of their width
pub record IsPort (port : Port) : Type 0 where
  pub wide : IsWidth port.width
  pub high : 2 ^ 31 ≤ port.address
  pub within : port.address + port.width ≤ 2 ^ 32
  pub aligned : port.address % port.width ≡ 0
  pub named : IsTrue (is_port_name port.name)

-- no byte belongs to both
abbrev pub AreApart : Port → Port → Type 0
AreApart p q = (p.address + p.width ≤ q.address) ⊎ (q.address + q.width ≤ p.address)

abbrev pub HaveTwoNames : Port → Port → Type 0
HaveTwoNames p q = p.name ≢ q.name

-- the ports of an image
pub record ArePorts (ports : List Port) : Type 0 where
  pub few : length ports ≤ 256
  pub each : All IsPort ports
  pub apart : AllPairs AreApart ports
  pub distinct : AllPairs HaveTwoNames ports
