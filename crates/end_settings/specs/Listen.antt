-- The address that a program listens at.
use Rattle.std.specs.Prelude.{◌≡◌, Option, Some, None}
use Rattle.std.specs.Net.Addr.{IsUnspecifiedV4, MatchIp}
use Rattle.std.specs.Net.Grammar.{IsIpText}
use Rattle.std.specs.declared.net.ip_addr.IpAddr.{IpAddr}
use Rattle.toml.specs.Data.{Data, string, Members}
use Rattle.end_settings.specs.declared.key.Key.TheVariants as keys
use Rattle.end_settings.specs.declared.fault.SettingsFault.{SettingsFault}
use Rattle.end_settings.specs.declared.fault.SettingsFault.TheVariants.{NotToml, BadValue}
use Rattle.end_settings.specs.Values.{value_of}

-- the address is 0.0.0.0
abbrev pub IsEverywhere : IpAddr → Type 0
IsEverywhere ip = MatchIp ip IsUnspecifiedV4 (λ _. ⊥)

-- the address that a value spells in numbers; without a value it is 0.0.0.0
abbrev pub IsListenAt : Option Data → IpAddr → Type 0
IsListenAt None ip = IsEverywhere ip
IsListenAt (Some (string bytes)) ip = IsIpText bytes ip
IsListenAt (Some d) ip = ⊥

-- there is a value, and it spells no address
abbrev pub NoListenAt : Option Data → Type 0
NoListenAt o = (ip : IpAddr) → ¬ (IsListenAt o ip)

-- the address by the table that a text is
abbrev pub HasListen : Option Members → IpAddr → Type 0
HasListen None ip = ⊥
HasListen (Some ms) ip = IsListenAt (value_of keys.Listen ms) ip

-- there is none, since the text is no table, or by what the table has
abbrev pub LacksListen : Option Members → SettingsFault → Type 0
LacksListen None f = f ≡ NotToml
LacksListen (Some ms) f = (f ≡ BadValue keys.Listen) × NoListenAt (value_of keys.Listen ms)
