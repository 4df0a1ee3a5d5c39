-- The parts above the lanes.
use Rattle.std.specs.Prelude.{ℕ, List, [], ◌∷◌, codes}
use Rattle.std.specs.Fmt.{decimal}
use Rattle.std.specs.List.{concat}
use Rattle.space_time_diagram.specs.Page.{page_height, page_width}

-- the first tag, with the size of the page, its ground, and what is on it in words
unfoldable pub first_tag_text : ℕ → ℕ → ℕ → ℕ → List ℕ
first_tag_text width height lanes count = concat (codes "<svg xmlns='http://www.w3.org/2000/svg' viewBox='0 0 "
    ∷ decimal width ∷ codes " " ∷ decimal height ∷ codes "' width='" ∷ decimal width ∷ codes "' height='"
    ∷ decimal height ∷ codes "' role='img' aria-label='space-time diagram of a history'>\n"
    ∷ codes "<rect class='ground' width='100%' height='100%'/>\n<text class='title' x='16' y='24'>entries: "
    ∷ decimal count ∷ codes ", nodes: " ∷ decimal lanes ∷ codes "</text>\n" ∷ [])

-- that of the page of so many lanes and entries
abbrev pub first_tag : ℕ → ℕ → List ℕ
first_tag lanes count = first_tag_text (page_width lanes) (page_height count) lanes count

-- the colours, for light and for dark
unfoldable pub style : List ℕ
style =
    concat (codes "<style>\n"
    ∷ codes "svg{color:#1f2328;font:11px system-ui,sans-serif}text{fill:currentColor}.ground{fill:#fff}\n"
    ∷ codes ".title{font-size:13px;font-weight:600}.lane{font-size:10px;font-weight:600;text-anchor:middle}\n"
    ∷ codes ".lane{stroke:#fff;stroke-width:4px;paint-order:stroke}\n"
    ∷ codes ".place{font-size:9px;text-anchor:end}.session{font-size:8px;text-anchor:end}\n"
    ∷ codes ".s0{fill:#e9ecef}.s1{fill:#cfe5f5}.s2{fill:#fae3b4}\n"
    ∷ codes ".s3{fill:#c9ebdd}.s4{fill:#f3d3e4}.s5{fill:#f3efb0}\n"
    ∷ codes ".normal{fill:#9aa3ad}.initiate{fill:#e69f00}.reset{fill:#0072b2}\n"
    ∷ codes ".form{stroke:#1f2328}.letter{font-size:9px;font-weight:700;text-anchor:middle;fill:#1f2328}\n"
    ∷ codes ".ask{fill:#e69f00}.wave{fill:#56b4e9}.done{fill:#009e73}\n"
    ∷ codes ".mended{fill:#cc79a7}.bad{fill:#d55e00}.plain{fill:#fff}\n"
    ∷ codes ".down{fill:url(#hatch)}.stripe{stroke:#8b949e;stroke-width:2}.link path{stroke:#d55e00;stroke-width:1.5}\n"
    ∷ codes ".completion path{stroke:#009e73;stroke-width:2;stroke-dasharray:5 3}\n"
    ∷ codes ".completion text{font-weight:600}\n"
    ∷ codes "@media(prefers-color-scheme:dark){svg{color:#e6edf3}.ground{fill:#14171c}\n"
    ∷ codes ".s0{fill:#262b33}.s1{fill:#14344f}.s2{fill:#4a3a12}\n"
    ∷ codes ".s3{fill:#124030}.s4{fill:#49293e}.s5{fill:#42401a}\n"
    ∷ codes ".normal{fill:#6e7681}.form{stroke:#e6edf3}.lane{stroke:#14171c}}\n"
    ∷ codes "</style>\n" ∷ [])

-- the forms of the marks, by their kinds
unfoldable pub shapes : List ℕ
shapes =
    concat (codes "<defs>\n"
    ∷ codes "<g id='tree'><rect x='-6' y='-6' width='12' height='12' class='form plain'/>\n"
    ∷ codes "<text class='letter' y='3'>T</text></g>\n"
    ∷ codes "<g id='request'><path d='M0-9L9 6H-9Z' class='form ask'/>\n"
    ∷ codes "<text class='letter' y='4'>Q</text></g>\n"
    ∷ codes "<g id='relay'><path d='M0-9L9 6H-9Z' class='form ask'/>\n"
    ∷ codes "<text class='letter' y='4'>L</text></g>\n"
    ∷ codes "<g id='open'><circle r='9' class='form wave'/>\n"
    ∷ codes "<text class='letter' y='3'>O</text></g>\n"
    ∷ codes "<g id='join'><circle r='7' class='form wave'/>\n"
    ∷ codes "<text class='letter' y='3'>J</text></g>\n"
    ∷ codes "<g id='finish'><circle r='7' class='form done'/>\n"
    ∷ codes "<text class='letter' y='3'>F</text></g>\n"
    ∷ codes "<g id='mend'><circle r='7' class='form mended'/>\n"
    ∷ codes "<text class='letter' y='3'>M</text></g>\n"
    ∷ codes "<g id='action'><circle r='6' class='form plain'/>\n"
    ∷ codes "<text class='letter' y='3'>A</text></g>\n"
    ∷ codes "<g id='fault'><path d='M0-9L9 0L0 9L-9 0Z' class='form bad'/>\n"
    ∷ codes "<text class='letter' y='3'>!</text></g>\n"
    ∷ codes "<pattern id='hatch' width='8' height='8' patternUnits='userSpaceOnUse'>\n"
    ∷ codes "<rect class='ground' width='8' height='8'/><path d='M-2 2L2-2M0 8L8 0M6 10L10 6' class='stripe'/></pattern>\n"
    ∷ codes "</defs>\n" ∷ [])

-- what the bands and the marks stand for, above the lanes
unfoldable pub legend : List ℕ
legend =
    concat (codes "<g class='legend' transform='translate(16 48)'>\n"
    ∷ codes "<rect class='normal' x='3' y='-8' width='10' height='16'/>\n"
    ∷ codes "<text x='26' y='4'>normal: knows of no reset</text>\n"
    ∷ codes "<rect class='initiate' x='3' y='12' width='10' height='16'/>\n"
    ∷ codes "<text x='26' y='24'>initiate: has asked for a reset</text>\n"
    ∷ codes "<rect class='reset' x='3' y='32' width='10' height='16'/>\n"
    ∷ codes "<text x='26' y='44'>reset: waits for its children</text>\n"
    ∷ codes "<rect class='s0' y='52' width='8' height='16'/>\n"
    ∷ codes "<rect class='s1' x='8' y='52' width='8' height='16'/>\n"
    ∷ codes "<text x='26' y='64'>its session, a colour behind it</text>\n"
    ∷ codes "<rect class='down' y='72' width='16' height='16'/>\n"
    ∷ codes "<text x='26' y='84'>the node is down</text>\n"
    ∷ codes "<g class='completion'><path d='M-4 100H20'/></g>\n"
    ∷ codes "<text x='26' y='104'>a session is told complete</text>\n"
    ∷ codes "<g class='link'><path d='M-4 120H18'/><circle class='form bad' cx='16' cy='120' r='4'/></g>\n"
    ∷ codes "<text x='26' y='124'>other end of a link's fault</text>\n"
    ∷ codes "<use href='#request' x='228' y='0'/><text x='246' y='4'>request</text>\n"
    ∷ codes "<use href='#relay' x='228' y='20'/><text x='246' y='24'>relay of a request</text>\n"
    ∷ codes "<use href='#open' x='228' y='40'/><text x='246' y='44'>open a session</text>\n"
    ∷ codes "<use href='#join' x='228' y='60'/><text x='246' y='64'>join a session</text>\n"
    ∷ codes "<use href='#finish' x='228' y='80'/><text x='246' y='84'>finish</text>\n"
    ∷ codes "<use href='#mend' x='228' y='100'/><text x='246' y='104'>mend the wave registers</text>\n"
    ∷ codes "<use href='#tree' x='228' y='120'/><text x='246' y='124'>claim, follow or adopt</text>\n"
    ∷ codes "<use href='#action' x='228' y='140'/><text x='246' y='144'>action of the application</text>\n"
    ∷ codes "<use href='#fault' x='228' y='160'/><text x='246' y='164'>fault</text>\n"
    ∷ codes "</g>\n" ∷ [])

-- the parts above so many lanes
abbrev pub head_text : ℕ → ℕ → List ℕ
head_text lanes count = concat (first_tag lanes count ∷ style ∷ shapes ∷ legend ∷ [])
