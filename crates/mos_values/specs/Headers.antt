-- Headers with a slug, and headers whose slug may be absent.
use Rattle.std.specs.Prelude.{Some}
use Rattle.mos_values.specs.declared.header.Header.{Header}
use Rattle.mos_values.specs.declared.header.HeaderPatch.{HeaderPatch}

-- all that a header has, as roListAll lists it
abbrev pub patch_of : Header → HeaderPatch
patch_of h = record {
  ro = h.ro;
  slug = Some h.slug;
  channel = h.channel;
  ed_start = h.ed_start;
  ed_dur = h.ed_dur;
  trigger = h.trigger;
  macro_in = h.macro_in;
  macro_out = h.macro_out;
  metadata = h.metadata;
  others = h.others;
}
